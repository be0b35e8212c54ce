-- What is left of a whole tree when only the edges that lead to a target stay.
use Rattle.link_detours.proofs.Common.{AreInPlaceOrder, Chip, Contains, Contains-get_or, Description, Edge, EdgeStep, GoesOnFrom, IsPath, IsTreeChip, IsTreeTo, IsWholeTree, LeadsToTarget, List, Some}
use Rattle.link_detours.proofs.Common.{Steps, [], ap, arith, end_of, get_or, inl, inr, length, link_place, path_more, refl, subst, suc, sym, tree_cases, tree_end, zero, ℕ, ◌++◌, ◌<◌, ◌↔◌, ◌∙◌, ◌∷◌}
use Rattle.link_detours.proofs.Common.{◌≡◌}
use Rattle.link_detours.proofs.{Stepping.Steps-cons, Stepping.Steps-first, Wholes.edge_step}

module _ (m : Description) (root : Chip) (tree : List Edge) (targets : List Chip) (result : List Edge) (is : IsWholeTree m root tree)
    (on_tree : (t : Chip) → Contains targets t → IsTreeChip m root tree t) (some : 0 < length targets) (ordered : AreInPlaceOrder m result)
    (LeadsOn : Chip → Type 0) (left : (e : Edge) → Contains result e ↔ (Contains tree e × ((c : Chip) × (end_of m e ≡ Some c) × LeadsOn c)))
    (before : (e : Edge) (c : Chip) → Contains tree e → end_of m e ≡ Some c → LeadsOn c → LeadsOn e.chip)
    (at_target : (t : Chip) → Contains targets t → LeadsOn t)
    (goes_on : (c : Chip) → IsTreeChip m root tree c → LeadsOn c → GoesOnFrom result targets c) where
  -- the walk from the root to a chip that leads on is a path of edges that stay, and the root leads on
  path_stays : (n : ℕ) (c : Chip) → Steps (EdgeStep m tree) n root c → LeadsOn c → (path : List Edge) × IsPath m result root path c × LeadsOn root
  path_stays zero c walk on = ([], walk, subst (λ (x : Chip). LeadsOn x) (sym walk) on)
  path_stays (suc n) c walk on =
      let e : Edge = record { chip = walk.0; dir = walk.2.0 } in
      let has : Contains tree e = walk.2.1 in
      let leads : end_of m e ≡ Some c = walk.2.2 in
      let path = path_stays n walk.0 walk.1 (before e c has leads on) in
      (path.0 ++ e ∷ [], path_more m result root walk.0 c path.0 e path.1 ((left e).1 (has, (c, leads, on))) refl leads, path.2)

  -- a chip of what is left is one of the tree, and leads on
  left_chip : (c : Chip) → IsTreeChip m root result c → IsTreeChip m root tree c × LeadsOn c
  left_chip c on = elim (tree_cases m root result c on) [
    | inl at ↦
        let t : Chip = get_or targets 0 c in
        let has : Contains targets t = Contains-get_or targets 0 c some in
        let way = is.reached t (on_tree t has) in
        (inl at, subst (λ (x : Chip). LeadsOn x) (sym at) (path_stays way.0 t way.1 (at_target t has)).2)
    | inr into ↦
        let known = (left into.0).0 into.1 in
        let same : Some known.1.0 ≡ Some c = sym known.1.1 ∙ into.2 in
        let one : known.1.0 ≡ c = cc in
        (tree_end m root tree into.0 c known.0 into.2, subst (λ (x : Chip). LeadsOn x) one known.1.2)
  ]

  -- a chip of the tree that leads on is left
  stays_chip : (c : Chip) → IsTreeChip m root tree c → LeadsOn c → IsTreeChip m root result c
  stays_chip c on leads_on = elim (tree_cases m root tree c on) [
    | inl at ↦ inl at
    | inr into ↦ tree_end m root result into.0 c ((left into.0).1 (into.1, (c, into.2, leads_on))) into.2
  ]

  -- What is left is a tree to the targets.
  pub tree_kept : IsTreeTo m root result targets
  tree_kept = record {
    edges_live = λ k d h. is.live (get_or result k d) ((left (get_or result k d)).0 (Contains-get_or result k d h)).0;
    edges_begin = λ k d h.
        let e : Edge = get_or result k d in
        let known = (left e).0 (Contains-get_or result k d h) in
        stays_chip e.chip (is.begins e known.0) (before e known.1.0 known.0 known.1.1 known.1.2);
    none_into_root = λ k d h. is.none_into_root (get_or result k d) ((left (get_or result k d)).0 (Contains-get_or result k d h)).0;
    one_into_each = λ i j d lt h same.
        let within : i < length result = omega arith in
        let first = (left (get_or result i d)).0 (Contains-get_or result i d within) in
        let second = (left (get_or result j d)).0 (Contains-get_or result j d h) in
        let one : get_or result i d ≡ get_or result j d =
        is.one_into (get_or result i d) (get_or result j d) second.1.0 first.0 second.0 (same ∙ second.1.1) second.1.1 in
        let place : link_place m (get_or result i d).chip (get_or result i d).dir ≡ link_place m (get_or result j d).chip (get_or result j d).dir =
        ap (λ (e : Edge). link_place m e.chip e.dir) one in
        let apart : link_place m (get_or result i d).chip (get_or result i d).dir < link_place m (get_or result j d).chip (get_or result j d).dir =
        ordered i j d lt h in
        omega (arith, place, apart);
    reached = λ c on.
        let known = left_chip c on in
        let way = is.reached c known.0 in
        let path = path_stays way.0 c way.1 known.1 in
        (path.0, path.1);
    has_targets = λ k d h.
        let t : Chip = get_or targets k d in
        let has : Contains targets t = Contains-get_or targets k d h in
        stays_chip t (on_tree t has) (at_target t has);
    ends_are_targets = λ c on. let known = left_chip c on in goes_on c known.0 known.1;
  }

-- the chip is a target or leads to one
abbrev pub LeadsOn : Description → List Edge → List Chip → Chip → Type 0
LeadsOn m tree targets c = (t : Chip) × Contains targets t × ((n : ℕ) × Steps (EdgeStep m tree) n c t)

module _ (m : Description) (root : Chip) (tree : List Edge) (targets : List Chip) (result : List Edge) (is : IsWholeTree m root tree)
    (on_tree : (t : Chip) → Contains targets t → IsTreeChip m root tree t) (some : 0 < length targets)
    (left : (e : Edge) → Contains result e ↔ (Contains tree e × LeadsToTarget m tree targets e)) (ordered : AreInPlaceOrder m result) where
  goes : (c : Chip) → LeadsOn m tree targets c → GoesOnFrom result targets c
  goes c (t, has, (zero, walk)) = inr (subst (λ (x : Chip). Contains targets x) (sym walk) has)
  goes c (t, has, (suc n, walk)) =
      let first = Steps-first (EdgeStep m tree) n c t walk in
      let e : Edge = record { chip = c; dir = first.1.0 } in
      let mine : Contains result e = (left e).1 (first.1.1, (first.0, first.1.2, (t, has, (n, first.2)))) in
      inl (mine.0, e, mine.1, mine.2, refl)

  -- So is what leads to a target.
  pub tree_left : IsTreeTo m root result targets
  tree_left =
      tree_kept m root tree targets result is on_tree some ordered (LeadsOn m tree targets) left
      (λ e c has leads on. (on.0, on.1, (suc on.2.0, Steps-cons (EdgeStep m tree) on.2.0 e.chip c on.0 (edge_step m tree e c has leads) on.2.1)))
      (λ t has. (t, has, (0, refl))) (λ c on leads_on. goes c leads_on)
