-- Trees whose every chip is reached from the root, and what a detour adds to one.
use Rattle.link_detours.proofs.Common.{Chip, Contains, Contains-append_cases, Contains-append_left, Contains-append_right, Contains-cases, Contains-first, Contains-later, Description, Edge, EdgeStep}
use Rattle.link_detours.proofs.Common.{IsDetour, IsLastLink, IsLiveLink, IsTreeChip, IsTreeLevel, IsWholeTree, Joins, LeadsTo, List, Some, Steps, [], ap, append-nil, arith, chip_in, end_of, inl, inr}
use Rattle.link_detours.proofs.Common.{same_Some, subst, suc, sym, tree_cases, tree_end, ℕ, ◌++◌, ◌∙◌, ◌∷◌, ◌≡◌, ◌≤◌, ◌⊎◌}
use Rattle.link_detours.proofs.Stepping.{Steps-map}

-- a step by an edge leads to a chip of the tree
pub steps_on_tree : (m : Description) (root : Chip) (tree : List Edge) (n : ℕ) (c : Chip) → Steps (EdgeStep m tree) n root c → IsTreeChip m root tree c
steps_on_tree m root tree n c walk = grind (arith, tree_end)

-- an edge is a step
pub edge_step : (m : Description) (tree : List Edge) (e : Edge) (c : Chip) → Contains tree e → end_of m e ≡ Some c → EdgeStep m tree e.chip c
edge_step m tree e c has leads = (e.dir, has, leads)

-- steps by live edges are live steps
pub live_steps : (m : Description) (root : Chip) (tree : List Edge) → IsWholeTree m root tree → (n : ℕ) (a c : Chip) → Steps (EdgeStep m tree) n a c → Steps (LeadsTo m) n a c
live_steps m root tree is = Steps-map _ _ (λ a b step. (step.0, is.live (record { chip = a; dir = step.0 }) step.1, step.2))

-- a list has the items that it has without one
with_one : (tree walk : List Edge) (e f : Edge) → Contains (tree ++ walk) f → Contains (tree ++ e ∷ walk) f
with_one tree walk e f has = grind (arith, Contains-append_cases tree walk f has, Contains-append_left, Contains-append_right, Contains-later)

-- What a tree with a detour is: whole, with the chip where the detour ends, and with no chip that is farther off than that one.
pub record Detoured (m : Description) (root : Chip) (tree : List Edge) (c : Chip) (more : List Edge) : Type 0 where
  pub whole : IsWholeTree m root more
  pub there : IsTreeChip m root more c
  pub near : (x : Chip) → IsTreeChip m root more x → (k : ℕ) × IsTreeLevel m root tree x k × ((n : ℕ) → IsTreeLevel m root tree c n → k ≤ n)

-- one link more, from the chip where a detour ends into one that is farther off
detour_more : (m : Description) (root : Chip) (tree walk : List Edge) (c : Chip) (e : Edge) → IsLastLink m root tree c e → Detoured m root tree e.chip (tree ++ walk) →
    Detoured m root tree c (tree ++ e ∷ walk)
detour_more m root tree walk c e last rest = record {
  whole = record {
    live = λ f has. elim (parts f has) [
      | inl same ↦ subst (λ (g : Edge). IsLiveLink m g.chip g.dir) (sym same) last.lives
      | inr old ↦ rest.whole.live f old
    ];
    reached = λ x on. elim (tree_cases m root (tree ++ e ∷ walk) x on) [
      | inl at ↦ (0, sym at)
      | inr into ↦ elim (parts into.0 into.1) [
        | inl same ↦
            let way = rest.whole.reached e.chip rest.there in
            (suc way.0, (e.chip, kept way.0 e.chip way.1, edge_step m (tree ++ e ∷ walk) e x mine (ap (end_of m) (sym same) ∙ into.2)))
        | inr old ↦ let way = rest.whole.reached x (tree_end m root (tree ++ walk) into.0 x old into.2) in (way.0, kept way.0 x way.1)
      ]
    ];
    none_into_root = λ f has leads. elim (parts f has) [
      | inl same ↦ off (inl (ends f root same leads))
      | inr old ↦ rest.whole.none_into_root f old leads
    ];
    begins = λ f has. elim (parts f has) [
      | inl same ↦ chip_in m root (tree ++ walk) (tree ++ e ∷ walk) (with_one tree walk e) f.chip (subst (λ (g : Edge). IsTreeChip m root (tree ++ walk) g.chip) (sym same) rest.there)
      | inr old ↦ chip_in m root (tree ++ walk) (tree ++ e ∷ walk) (with_one tree walk e) f.chip (rest.whole.begins f old)
    ];
    one_into = λ f g x has too leads also. elim (parts f has) [
      | inl same ↦ elim (parts g too) [
        | inl same_too ↦ same ∙ sym same_too
        | inr old ↦ absurd (off (tree_end m root (tree ++ walk) g c old (also ∙ ap Some (sym (ends f x same leads)))))
      ]
      | inr old ↦ elim (parts g too) [
        | inl same ↦ absurd (off (tree_end m root (tree ++ walk) f c old (leads ∙ ap Some (sym (ends g x same also)))))
        | inr old_too ↦ rest.whole.one_into f g x old old_too leads also
      ]
    ];
  };
  there = tree_end m root (tree ++ e ∷ walk) e c mine last.leads;
  near = λ x on. elim (tree_cases m root (tree ++ e ∷ walk) x on) [
    | inl at ↦ nearer x (rest.near x (inl at))
    | inr into ↦ elim (parts into.0 into.1) [
      | inl same ↦ (suc last.level, subst (λ (y : Chip). IsTreeLevel m root tree y (suc last.level)) (ends into.0 x same into.2) last.here, λ n level. last.here.least n level.reached)
      | inr old ↦ nearer x (rest.near x (tree_end m root (tree ++ walk) into.0 x old into.2))
    ]
  ];
}
  where
    mine : Contains (tree ++ e ∷ walk) e
    mine = Contains-append_right tree (e ∷ walk) e (Contains-first e walk)

    parts : (f : Edge) → Contains (tree ++ e ∷ walk) f → (f ≡ e) ⊎ Contains (tree ++ walk) f
    parts f has = grind (arith, Contains-append_cases tree (e ∷ walk) f has, Contains-append_left, Contains-cases, Contains-append_right)

    kept : (n : ℕ) (x : Chip) → Steps (EdgeStep m (tree ++ walk)) n root x → Steps (EdgeStep m (tree ++ e ∷ walk)) n root x
    kept n x = Steps-map _ _ (λ a b step. (step.0, with_one tree walk e (record { chip = a; dir = step.0 }) step.1, step.2)) n root x

    ends : (f : Edge) (x : Chip) → f ≡ e → end_of m f ≡ Some x → c ≡ x
    ends f x same leads = same_Some c x (sym last.leads ∙ (ap (end_of m) (sym same) ∙ leads))

    nearer : (x : Chip) → (k : ℕ) × IsTreeLevel m root tree x k × ((n : ℕ) → IsTreeLevel m root tree e.chip n → k ≤ n) →
        (k : ℕ) × IsTreeLevel m root tree x k × ((n : ℕ) → IsTreeLevel m root tree c n → k ≤ n)
    nearer x (k, level, low) = (k, level, λ n far. let below : k ≤ last.level = low last.level last.there in let above : suc last.level ≤ n = last.here.least n far.reached in omega arith)

    off : IsTreeChip m root (tree ++ walk) c → ⊥
    off on =
        let (k, level, low) = rest.near c on in
        let below : k ≤ last.level = low last.level last.there in
        let above : suc last.level ≤ k = last.here.least k level.reached in omega arith

-- A whole tree stays one with a detour, one link after the other.
pub detoured : (m : Description) (root : Chip) (tree : List Edge) → IsWholeTree m root tree → (c : Chip) (walk : List Edge) → IsDetour m root tree c walk →
    Detoured m root tree c (tree ++ walk)
detoured m root tree is c [] detour = grind (arith, append-nil tree)
detoured m root tree is c (e ∷ walk) detour = detour_more m root tree walk c e detour.0 (detoured m root tree is e.chip walk detour.1)

-- one target more is joined
pub Joins-more : (m : Description) (root : Chip) (tree : List Edge) (targets : List Chip) (mid : List Edge) (t : Chip) (walk : List Edge) →
    Joins m root tree targets mid → IsDetour m root mid t walk → Joins m root tree (targets ++ t ∷ []) (mid ++ walk)
Joins-more m root tree [] mid t walk joins detour = grind arith
Joins-more m root tree (u ∷ targets) mid t walk joins detour = grind (arith, Joins-more m root (tree ++ joins.0) targets mid t walk joins.2 detour)
