-- A tree and a list of targets have one repaired tree.
use Rattle.net_plans.proofs.Common.{Chip, Contains, Contains-append_cases, Contains-append_left, Contains-append_right, Description, Dir, Edge, EdgeStep, IsDetour, IsLastLink, IsRepaired, IsTreeChip}
use Rattle.net_plans.proofs.Common.{IsTreeLevel, Joins, LeadsToTarget, List, Some, Steps, [], arith, dir_number, far_back, far_of, inl, inr, link_place, live_ends, live_inside, opposite_of, refl}
use Rattle.net_plans.proofs.Common.{same_Some, same_dir, same_edge, same_in_order, subst, suc, sym, tree_cases, tree_end, zero, ℕ, ◌++◌, ◌∙◌, ◌∷◌, ◌≡◌, ◌≤◌}

-- all edges of the first list are in the second
abbrev pub Has : List Edge → List Edge → Type 0
Has fs es = (e : Edge) → Contains es e → Contains fs e

module _ (m : Description) (root : Chip) where
  chip_too : (tree other : List Edge) → Has other tree → (c : Chip) → IsTreeChip m root tree c → IsTreeChip m root other c
  chip_too tree other has c on = elim (tree_cases m root tree c on) [
    | inl at ↦ inl at
    | inr into ↦ tree_end m root other into.0 c (has into.0 into.1) into.2
  ]

  -- trees with the same edges have the same levels
  level_too : (tree other : List Edge) → Has other tree → Has tree other → (c : Chip) (n : ℕ) → IsTreeLevel m root tree c n → IsTreeLevel m root other c n
  level_too tree other to back c n is = record {
    reached = (is.reached.0, chip_too tree other to is.reached.0 is.reached.1, is.reached.2);
    least = λ k r. is.least k (r.0, chip_too other tree back r.0 r.1, r.2);
  }

  one_level : (tree : List Edge) (c : Chip) (n k : ℕ) → IsTreeLevel m root tree c n → IsTreeLevel m root tree c k → n ≡ k
  one_level tree c n k x y = (let up : n ≤ k = x.least k y.reached in let down : k ≤ n = y.least n x.reached in omega arith)

  -- a chip of the tree has level 0
  not_above : (tree : List Edge) (c : Chip) (n : ℕ) → IsTreeChip m root tree c → IsTreeLevel m root tree c (suc n) → ⊥
  not_above tree c n on is = (let low : suc n ≤ 0 = is.least 0 (c, on, refl) in omega arith)

  -- a chip has one last link
  one_link : (tree other : List Edge) → Has other tree → Has tree other → (c : Chip) (e f : Edge) → IsLastLink m root tree c e → IsLastLink m root other c f → e ≡ f
  one_link tree other to back c e f x y =
      let levels : suc x.level ≡ suc y.level = one_level tree c (suc x.level) (suc y.level) x.here (level_too other tree back to c (suc y.level) y.here) in
      let level : x.level ≡ y.level = omega arith in
      let from_f : IsTreeLevel m root tree f.chip x.level = subst (IsTreeLevel m root tree f.chip) (sym level) (level_too other tree back to f.chip y.level y.there) in
      let from_e : IsTreeLevel m root other e.chip y.level = subst (IsTreeLevel m root other e.chip) level (level_too tree other to back e.chip x.level x.there) in
      let up : dir_number e.dir ≤ dir_number f.dir = x.least f from_f y.lives y.leads in
      let down : dir_number f.dir ≤ dir_number e.dir = y.least e from_e x.lives x.leads in
      let dir : e.dir ≡ f.dir = same_dir e.dir f.dir (omega arith) in
      let one : far_of m c (opposite_of e.dir) ≡ Some e.chip = far_back m e.chip c e.dir (live_inside m e.chip (live_ends m e.chip e.dir x.lives).2) x.leads in
      let two : far_of m c (opposite_of e.dir) ≡ Some f.chip =
      subst (λ (d : Dir). far_of m c (opposite_of d) ≡ Some f.chip) (sym dir) (far_back m f.chip c f.dir (live_inside m f.chip (live_ends m f.chip f.dir y.lives).2) y.leads) in
      same_edge e f (same_Some e.chip f.chip (sym one ∙ two)) dir

  -- a chip has one detour
  one_detour : (tree other : List Edge) → Has other tree → Has tree other → (c : Chip) (walk also : List Edge) → IsDetour m root tree c walk → IsDetour m root other c also → walk ≡ also
  one_detour tree other to back c [] [] x y = refl
  one_detour tree other to back c [] (f ∷ also) x y = absurd (not_above other c y.0.level (chip_too tree other to c x) y.0.here)
  one_detour tree other to back c (e ∷ walk) [] x y = absurd (not_above tree c x.0.level (chip_too other tree back c y) x.0.here)
  one_detour tree other to back c (e ∷ walk) (f ∷ also) x y =
      let first : e ≡ f = one_link tree other to back c e f x.0 y.0 in
      let rest : walk ≡ also = one_detour tree other to back e.chip walk also x.1 (subst (λ (g : Edge). IsDetour m root other g.chip also) (sym first) y.1) in
      λ i. first i ∷ rest i

  has_more : (tree other walk also : List Edge) → Has other tree → walk ≡ also → Has (other ++ also) (tree ++ walk)
  has_more tree other walk also to same e has = grind (arith, Contains-append_cases tree walk e has, Contains-append_left, Contains-append_right)

  -- joining targets to trees with the same edges gives trees with the same edges
  one_whole : (tree other : List Edge) (targets : List Chip) (whole also : List Edge) → Has other tree → Has tree other → Joins m root tree targets whole → Joins m root other targets also →
      Has also whole × Has whole also
  one_whole tree other [] whole also to back x y = (
    λ e has. subst (λ (es : List Edge). Contains es e) y (to e (subst (λ (es : List Edge). Contains es e) (sym x) has)),
    λ e has. subst (λ (es : List Edge). Contains es e) x (back e (subst (λ (es : List Edge). Contains es e) (sym y) has)),
  )
  one_whole tree other (t ∷ targets) whole also to back x y =
      let walk : x.0 ≡ y.0 = one_detour tree other to back t x.0 y.0 x.1 y.1 in
      one_whole (tree ++ x.0) (other ++ y.0) targets whole also (has_more tree other x.0 y.0 to walk) (has_more other tree y.0 x.0 back (sym walk)) x.2 y.2

  steps_too : (tree other : List Edge) → Has other tree → (n : ℕ) (a c : Chip) → Steps (EdgeStep m tree) n a c → Steps (EdgeStep m other) n a c
  steps_too tree other to zero a c s = s
  steps_too tree other to (suc n) a c s = (s.0, steps_too tree other to n a s.0 s.1, (s.2.0, to (record { chip = s.0; dir = s.2.0 }) s.2.1, s.2.2))

  leads_too : (tree other : List Edge) (targets : List Chip) → Has other tree → (e : Edge) → LeadsToTarget m tree targets e → LeadsToTarget m other targets e
  leads_too tree other targets to e x = (x.0, x.1, (x.2.0, x.2.1, (x.2.2.0, steps_too tree other to x.2.2.0 x.0 x.2.0 x.2.2.1)))

  pub one_repair : (tree : List Edge) (targets : List Chip) (es fs : List Edge) → IsRepaired m root tree targets es → IsRepaired m root tree targets fs → es ≡ fs
  one_repair tree targets es fs x y =
      let both = one_whole x.kept y.kept targets x.whole y.whole (λ e has. (y.kept_is e).1 ((x.kept_is e).0 has)) (λ e has. (x.kept_is e).1 ((y.kept_is e).0 has)) x.joined y.joined in
      same_in_order (λ (e : Edge). link_place m e.chip e.dir) es fs x.in_order y.in_order
      (λ e has. let is = (x.result_is e).0 has in (y.result_is e).1 (both.0 e is.0, leads_too x.whole y.whole targets both.0 e is.1))
      (λ e has. let is = (y.result_is e).0 has in (x.result_is e).1 (both.1 e is.0, leads_too y.whole x.whole targets both.1 e is.1))
