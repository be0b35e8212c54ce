-- What was found of edges and targets by marks is what a routing tree has.
use Rattle.plan_check.proofs.Common.{All, All-contains, All-from_map, All-head, All-map, All-nil, AreMarks, Bool, Chip, Contains, Contains-append_cases, Contains-append_left, Contains-append_right}
use Rattle.plan_check.proofs.Common.{Contains-first, Contains-map, Contains-none, Contains-unmap, Description, Edge, EdgeStep, EntersOnce, IsAlone, IsInside, IsLiveLink, IsMarkedChip, IsPath}
use Rattle.plan_check.proofs.Common.{IsReachedChip, IsRoutingTree, IsTreeChip, IsTrue, List, Some, Spot, Steps, [], ap, arith, chip_of, chip_of-inside, end_of, false, false≢true, far_inside, get_or}
use Rattle.plan_check.proofs.Common.{going_on, index_below, index_of, index_of-chip_of, inl, inr, is_inside, length, length-map, live_ends, live_inside, map, mark_at, path_in_tree, path_more, refl}
use Rattle.plan_check.proofs.Common.{root_lives_with_edge, subst, suc, sym, tree_cases, true, zero, ℕ, ◌*◌, ◌++◌, ◌<◌, ◌↔◌, ◌∙◌, ◌∷◌, ◌≡◌}

-- ---- a root outside the grid

pub alone_is_routed : (m : Description) (root : Chip) (edges : List Edge) (targets : List Spot) → IsAlone root edges targets → IsRoutingTree m root edges targets
alone_is_routed m root edges targets alone = subst (λ (es : List Edge). IsRoutingTree m root es targets) (sym alone.no_edge) (record {
  edges_live = All-nil (λ (e : Edge). IsLiveLink m e.chip e.dir);
  edges_begin = All-nil (λ (e : Edge). IsTreeChip m root [] e.chip);
  none_into_root = All-nil (λ (e : Edge). end_of m e ≡ Some root → ⊥);
  one_into_each = λ j k d less below. absurd (omega (arith, below));
  reached = λ c on. ([], sym (at c on));
  has_targets = All-map (IsTreeChip m root []) (λ (s : Spot). s.chip) targets (λ k d below. inl (alone.on_root k d below));
  ends_are_targets = λ c on. inr (subst (Contains (map (λ (s : Spot). s.chip) targets)) (sym (at c on)) first);
})
  where
    at : (c : Chip) → IsTreeChip m root [] c → c ≡ root
    at c on = elim (tree_cases m root [] c on) [
      | inl same ↦ same
      | inr into ↦ absurd (Contains-none into.0 into.1)
    ]

    first : Contains (map (λ (s : Spot). s.chip) targets) root
    first = (0, subst (λ n. 0 < n) (sym (length-map targets (λ (s : Spot). s.chip))) alone.some_target, first_is targets alone.some_target alone.on_root)
      where
        first_is : (ts : List Spot) → 0 < length ts → All (λ (s : Spot). s.chip ≡ root) ts → get_or (map (λ (s : Spot). s.chip) ts) 0 root ≡ root
        first_is [] some all = absurd (omega (arith, some))
        first_is (t ∷ ts) some all = All-head (λ (s : Spot). s.chip ≡ root) t ts all

pub routed_is_alone : (m : Description) (root : Chip) (edges : List Edge) (targets : List Spot) → (IsInside m root → ⊥) → IsRoutingTree m root edges targets → IsAlone root edges targets
routed_is_alone m root edges targets outside tree = by edges tree refl
  where
    by : (es : List Edge) → IsRoutingTree m root es targets → es ≡ edges → IsAlone root edges targets
    by (e ∷ es) routed same =
        absurd (outside (live_inside m root (root_lives_with_edge m root (e ∷ es) (map (λ (s : Spot). s.chip) targets) routed e (Contains-first e es))))
    by [] routed same = record {
      no_edge = sym same;
      some_target = elim (routed.ends_are_targets root (inl refl)) [
        | inl any ↦ absurd (omega (arith, any.2))
        | inr has ↦ let below : has.0 < length targets = subst (λ n. has.0 < n) (length-map targets (λ (s : Spot). s.chip)) has.1 in omega (arith, below)
      ];
      on_root = All-from_map (λ (c : Chip). c ≡ root) (λ (s : Spot). s.chip) targets (λ k d below. elim (tree_cases m root [] (get_or (map (λ (s : Spot). s.chip) targets) k d) (routed.has_targets k d below)) [
        | inl at ↦ at
        | inr into ↦ absurd (Contains-none into.0 into.1)
      ]);
    }

pub alone_tells : (m : Description) (root : Chip) (edges : List Edge) (targets : List Spot) (inside b : Bool) → inside ≡ is_inside m root → inside ≡ false →
    (IsTrue b) ↔ IsAlone root edges targets → (IsTrue b) ↔ IsRoutingTree m root edges targets
alone_tells m root edges targets inside b is outside tells = (
  λ came. alone_is_routed m root edges targets (tells.0 came),
  λ tree. tells.1 (routed_is_alone m root edges targets (λ within. false≢true (sym outside ∙ (is ∙ within))) tree),
)

-- ---- paths and reached chips

module _ (m : Description) (root : Chip) (edges : List Edge) (targets : List Spot) (reached : List Bool) (root_in : IsInside m root) (marks_are : AreMarks m (IsReachedChip m edges root) reached) where
  path_to : (n : ℕ) (c : Chip) → Steps (EdgeStep m edges) n root c → (path : List Edge) × IsPath m edges root path c
  path_to zero c walk = ([], walk)
  path_to (suc n) c walk =
      grind (arith, path_to n walk.0 walk.1, path_more m edges root walk.0 c (path_to n walk.0 walk.1).0 (record { chip = walk.0; dir = walk.2.0 }) (path_to n walk.0 walk.1).1 walk.2.1 refl walk.2.2)

  reached_by : (path : List Edge) (from to : Chip) → IsInside m from → IsReachedChip m edges root from → IsPath m edges from path to → IsInside m to × IsReachedChip m edges root to
  reached_by [] from to inside on along = (subst (IsInside m) along inside, subst (IsReachedChip m edges root) along on)
  reached_by (e ∷ path) from to inside on along =
      let at : IsInside m e.chip = subst (IsInside m) (sym along.1) inside in
      let here : IsReachedChip m edges root e.chip = subst (IsReachedChip m edges root) (sym along.1) on in
      reached_by path along.2.0 to (far_inside m e.chip along.2.0 e.dir at along.2.1) (suc here.0, (e.chip, here.1, (e.dir, along.0, along.2.1))) along.2.2

  marked_path : (c : Chip) → IsMarkedChip m reached c → (path : List Edge) × IsPath m edges root path c
  marked_path c marked = let on = (marks_are.told c marked.0).0 marked.1 in path_to on.0 c on.1

  marked_on : (c : Chip) → IsMarkedChip m reached c → IsTreeChip m root edges c
  marked_on c marked = let by = marked_path c marked in path_in_tree m root edges root c by.0 (inl refl) by.1

  -- a chip of a routing tree has a mark
  on_marked : IsRoutingTree m root edges targets → (c : Chip) → IsTreeChip m root edges c → IsMarkedChip m reached c
  on_marked tree c on = grind (arith, reached_by (tree.reached c on).0 root c root_in (0, refl) (tree.reached c on).1)

  pub begins_marked : IsRoutingTree m root edges targets → All (λ (e : Edge). IsMarkedChip m reached e.chip) edges
  begins_marked tree k d below = on_marked tree (get_or edges k d).chip (tree.edges_begin k d below)

  pub targets_marked : IsRoutingTree m root edges targets → All (λ (s : Spot). IsMarkedChip m reached s.chip) targets
  targets_marked tree k d below = on_marked tree (get_or targets k d).chip (All-from_map (IsTreeChip m root edges) (λ (s : Spot). s.chip) targets tree.has_targets k d below)

  module _ (on : List Bool) (once : EntersOnce m root edges) (begin : All (λ (e : Edge). IsMarkedChip m reached e.chip) edges) (has : All (λ (s : Spot). IsMarkedChip m reached s.chip) targets)
      (on_are : AreMarks m (Contains (going_on edges targets)) on) where
    abbrev Goes : Type 0
    Goes = (i : ℕ) → i < length reached → get_or reached i false ≡ true → get_or on i false ≡ true

    reached_chip : (c : Chip) → IsTreeChip m root edges c → (path : List Edge) × IsPath m edges root path c
    reached_chip c at = elim (tree_cases m root edges c at) [
      | inl same ↦ ([], sym same)
      | inr into ↦
          let by = marked_path into.0.chip (All-contains (λ (e : Edge). IsMarkedChip m reached e.chip) edges into.0 begin into.1) in
          (by.0 ++ into.0 ∷ [], path_more m edges root into.0.chip c by.0 into.0 by.1 into.1 refl into.2)
    ]

    pub is_tree : Goes → IsRoutingTree m root edges targets
    is_tree goes = record {
      edges_live = once.live;
      edges_begin = λ k d below. marked_on (get_or edges k d).chip (begin k d below);
      none_into_root = once.none_into_root;
      one_into_each = once.one_into_each;
      reached = reached_chip;
      has_targets = All-map (IsTreeChip m root edges) (λ (s : Spot). s.chip) targets (λ k d below. marked_on (get_or targets k d).chip (has k d below));
      ends_are_targets = λ c at.
          let by = reached_chip c at in
          let there = reached_by by.0 root c root_in (0, refl) by.1 in
          let marked : mark_at m reached c ≡ true = (marks_are.told c there.0).1 there.1 in
          let has = (on_are.told c there.0).0 (goes (index_of m c) (subst (λ n. index_of m c < n) (sym marks_are.long) (index_below m c there.0)) marked) in
          elim (Contains-append_cases (map (λ (s : Spot). s.chip) targets) (map (λ (e : Edge). e.chip) edges) c has) [
            | inl target ↦ inr target
            | inr begin ↦ let (e, (k, within, at), is) = Contains-unmap (λ (e : Edge). e.chip) edges c begin in inl (k, e, within, at, is)
          ];
    }

    pub tree_goes : IsRoutingTree m root edges targets → Goes
    tree_goes tree i below marked =
        let under : i < m.width * m.height = subst (λ n. i < n) marks_are.long below in
        let c : Chip = chip_of m i in
        let inside : IsInside m c = chip_of-inside m i under in
        let at : index_of m c ≡ i = index_of-chip_of m i in
        let here : mark_at m reached c ≡ true = ap (λ n. get_or reached n false) at ∙ marked in
        let has : Contains (going_on edges targets) c = elim (tree.ends_are_targets c (marked_on c (inside, here))) [
          | inl (k, e, within, at_k, is) ↦
              Contains-append_right (map (λ (s : Spot). s.chip) targets) (map (λ (x : Edge). x.chip) edges) c (subst (Contains (map (λ (x : Edge). x.chip) edges)) is (Contains-map (λ (x : Edge). x.chip) edges e (k, within, at_k)))
          | inr target ↦ Contains-append_left (map (λ (s : Spot). s.chip) targets) (map (λ (x : Edge). x.chip) edges) c target
        ] in
        sym (ap (λ n. get_or on n false) at) ∙ (on_are.told c inside).1 has

    pub is_tree_tells : (b : Bool) → (IsTrue b) ↔ Goes → (IsTrue b) ↔ IsRoutingTree m root edges targets
    is_tree_tells b tells = (λ came. is_tree (tells.0 came), λ tree. tells.1 (tree_goes tree))

-- a routing tree's edges enter each chip once
pub once_of : (m : Description) (root : Chip) (edges : List Edge) (targets : List Spot) → IsRoutingTree m root edges targets → EntersOnce m root edges
once_of m root edges targets tree = record { live = tree.edges_live; none_into_root = tree.none_into_root; one_into_each = tree.one_into_each }

pub once_inside : (m : Description) (root : Chip) (edges : List Edge) → EntersOnce m root edges → All (λ (e : Edge). IsInside m e.chip) edges
once_inside m root edges once k d below = grind (arith, live_ends, get_or, live_inside)

pub has_inside : (m : Description) (marks : List Bool) (targets : List Spot) → All (λ (s : Spot). IsMarkedChip m marks s.chip) targets → All (λ (s : Spot). IsInside m s.chip) targets
has_inside m marks targets all k d below = (all k d below).0
