-- The tree so far: what its table says, and what comes of growing when it is done.
use Rattle.ner_trees.proofs.Common.{All, All-append, All-contains, All-push, AllPairs, AllPairs-permutation, Any, AreAllOn, AreOn, Bool, Chip, Contains, Contains-append_cases, Contains-append_left}
use Rattle.ner_trees.proofs.Common.{Contains-append_right, Contains-get_or, Contains-permutation, Contains-push, Description, Dir, Edge, Grows, HasSize, IsAdded, IsCutAt, IsEdgeBefore, IsGrown}
use Rattle.ner_trees.proofs.Common.{IsInside, IsJoinedBy, IsLiveLink, IsMarkedBy, IsNear, IsNearestOn, IsPath, IsPermutation, IsPermutation-sym, IsTreeChip, IsTreeTo, IsWithoutDead, Join, List, None}
use Rattle.ner_trees.proofs.Common.{Option, Some, TellsTree, [], and_from, ap, append-nil, append_assoc, arith, cases_eq, cases_order, chip_in, dir_eq_true, dir_number, displacement_of, distance_of}
use Rattle.ner_trees.proofs.Common.{distance_sum, end_of, eq-eqb, false, far_inside, far_of, get_or, get_or-replicate, get_or-set_other, get_or-set_same, if◌then◌else◌, index_below, index_of, inl}
use Rattle.ner_trees.proofs.Common.{inr, is_on, ldf_of, length, length-replicate, length_permutation, map, map_push, more_chips, next_of, or_stay, path_in, refl, replicate, same_chip, same_edge}
use Rattle.ner_trees.proofs.Common.{same_index, set, subst, sum_by, sym, take, take_all, take_more, tree_cases, tree_end, true, true≢false, ℕ, ∥∥₁_map, ◌*◌, ◌++◌, ◌+◌, ◌<◌, ◌∙◌, ◌∷◌, ◌≡◌, ◌≢◌, ◌≤◌}
use Rattle.ner_trees.proofs.Common.{◌⊎◌}
use Rattle.ner_trees.proofs.{Searching.IsNoneOn, Trees.spanning_root, Trees.Outcome, Trees.grown, Walking.ldf_walks}

-- chips of a tree whose edges begin inside the grid are inside
pub on_inside : (m : Description) (root : Chip) (tree : List Edge) → IsInside m root → All (λ e. IsInside m e.chip) tree → (c : Chip) → IsTreeChip m root tree c → IsInside m c
on_inside m root tree root_in inside c on = grind (arith, tree_cases m root tree c on, far_inside, All-contains)

pub near_is : (m : Description) (root : Chip) (on : List Bool) (tree : List Edge) (t near : Chip) → IsInside m root → All (λ e. IsInside m e.chip) tree → TellsTree m root on tree →
    IsNearestOn m on t 20 near ⊎ (IsNoneOn m on t 20 × (near ≡ root)) → IsNear m root tree t near
near_is m root on tree t near root_in inside tells (inl found) =
    inl (
      ((tells near found.0.inside).0 found.0.on_it, found.0.near),
      λ e is.
          let e_in = on_inside m root tree root_in inside e is.0 in
          found.1 e (record { inside = e_in; on_it = (tells e e_in).1 is.0; near = is.1 }),
    )
near_is m root on tree t near root_in inside tells (inr none) =
    inr (
      λ e is.
          let e_in = on_inside m root tree root_in inside e is.0 in
          none.0 e (record { inside = e_in; on_it = (tells e e_in).1 is.0; near = is.1 }),
      none.1,
    )

-- the chip to which a target is joined is one that the table has
pub near_on_table : (m : Description) (root : Chip) (on : List Bool) (tree : List Edge) (t near : Chip) → IsInside m root → All (λ e. IsInside m e.chip) tree → TellsTree m root on tree →
    IsNear m root tree t near → IsInside m near × (is_on m on near ≡ true)
near_on_table m root on tree t near root_in inside tells (inl found) = grind (arith, on_inside m root tree root_in inside near found.0.0)
near_on_table m root on tree t near root_in inside tells (inr none) = grind arith

pub next_inside : (m : Description) (c : Chip) (d : Dir) → IsInside m c → IsInside m (next_of m c d)
next_inside m c d c_in = grind (arith, far_inside)

pub added_is : (m : Description) (root : Chip) (on : List Bool) (tree : List Edge) (j : Join) (walk : List Dir) (links : List Edge) → TellsTree m root on tree →
    walk ≡ ldf_of (displacement_of m j.near j.target) → IsCutAt m on j.near walk j.start links → IsAdded m root tree j links
added_is m root on tree j walk links tells is cut = grind (arith, get_or, true≢false, next_inside)

-- the table with the branch noted tells the tree with the branch
pub tells_more : (m : Description) (root : Chip) (old new : List Bool) (tree links whole : List Edge) → whole ≡ tree ++ links → TellsTree m root old tree → IsMarkedBy m old new links →
    TellsTree m root new whole
tells_more m root old new tree links whole is tells marked = subst (λ es. TellsTree m root new es) (sym is) (λ c c_in. (
  λ has. elim ((marked c c_in).0 has) [
    | inl was ↦ more_chips m root tree links c ((tells c c_in).0 was)
    | inr any ↦ tree_end m root (tree ++ links) any.1 c (lists_right any.1 (any.0, any.2, any.3)) any.4
  ],
  λ there. (marked c c_in).1 (elim (tree_cases m root (tree ++ links) c there) [
    | inl at ↦ inl ((tells c c_in).1 (inl at))
    | inr into ↦ elim (Contains-append_cases tree links into.0 into.1) [
      | inl before ↦ inl ((tells c c_in).1 (tree_end m root tree into.0 c before into.2))
      | inr here ↦ inr (here.0, into.0, here.1, here.2, into.2)
    ]
  ]),
))
  where
    lists_right : (e : Edge) → Contains links e → Contains (tree ++ links) e
    lists_right e has = Contains-append_right tree links e has

-- one chip more is marked, and listed
module _ (m : Description) (on : List Bool) (chips : List Chip) (d : Chip) (d_in : IsInside m d) where
  pub one_listed : length on ≡ m.width * m.height → AreOn m on chips → AreOn m (set on (index_of m d) true) (chips ++ d ∷ [])
  one_listed long listed =
      let i : ℕ = index_of m d in
      let here : is_on m (set on i true) d ≡ true = get_or-set_same on i true false (let below : index_of m d < m.width * m.height = index_below m d d_in in omega (arith, below, long)) in
      let stay : (k : ℕ) → get_or on k false ≡ true → get_or (set on i true) k false ≡ true = λ k was. elim (cases_eq k i) [
        | inl same ↦ ap (λ n. get_or (set on i true) n false) same ∙ here
        | inr other ↦ get_or-set_other on i k true false other ∙ was
      ] in
      All-push (λ c. IsInside m c × (is_on m (set on i true) c ≡ true)) chips d (λ k e within. let was = listed k e within in (was.0, stay (index_of m (get_or chips k e)) was.1)) (d_in, here)

  pub one_all_listed : AreAllOn m on chips → AreAllOn m (set on (index_of m d) true) (chips ++ d ∷ [])
  one_all_listed listed c c_in is = elim (cases_eq (index_of m c) (index_of m d)) [
    | inl same ↦ ∣ subst (Contains (chips ++ d ∷ [])) (sym (same_index m c d c_in d_in same)) (Contains-push chips d) ∣₁
    | inr other ↦
        ∥∥₁_map (listed c c_in (sym (get_or-set_other on (index_of m d) (index_of m c) true false other) ∙ is)) (Contains-append_left chips (d ∷ []) c)
  ]

-- the table that has the root alone
pub root_tells : (m : Description) (root : Chip) (on : List Bool) (i : ℕ) → IsInside m root → on ≡ replicate (m.width * m.height) false → i ≡ index_of m root →
    TellsTree m root (set on i true) []
root_tells m root on i root_in is at = grind (arith, cases_eq, same_index, length-replicate, index_below, get_or, get_or-set_same, get_or-set_other, get_or-replicate, true≢false, tree_cases)

-- edges to which others may have been added begin inside where both do
pub extended_inside : (m : Description) (b : Bool) (old links new : List Edge) → new ≡ (if b then old ++ links else old) →
    All (λ e. IsInside m e.chip) old → All (λ e. IsInside m e.chip) links → All (λ e. IsInside m e.chip) new
extended_inside m true old links new is these those =
    subst (λ (es : List Edge). All (λ e. IsInside m e.chip) es) (sym is) (All-append (λ e. IsInside m e.chip) old links these those)
extended_inside m false old links new is these those = subst (λ (es : List Edge). All (λ e. IsInside m e.chip) es) (sym is) these

-- the tree so far, and how its targets came to it
pub record GrownSoFar (m : Description) (root : Chip) (on : List Bool) (edges : List Edge) (joins : List Join) (taken : List Chip) : Type 0 where
  pub on_is : TellsTree m root on edges
  pub targets : map (λ j. j.target) joins ≡ taken
  pub grows : (js : List Join) (whole : List Edge) → Grows m root edges js whole → Grows m root [] (joins ++ js) whole

pub so_far_start : (m : Description) (root : Chip) (on : List Bool) (edges : List Edge) (joins : List Join) → TellsTree m root on [] → edges ≡ [] → joins ≡ [] →
    GrownSoFar m root on edges joins []
so_far_start m root on edges joins tells no_edge no_join = grind arith

pub so_far_more : (m : Description) (root : Chip) (on after : List Bool) (edges whole : List Edge) (joins more : List Join) (targets : List Chip) (i : ℕ) (d : Chip) (j : Join) →
    i < length targets → TellsTree m root after whole → j.target ≡ get_or targets i d → IsJoinedBy m root edges j whole → more ≡ joins ++ j ∷ [] →
    GrownSoFar m root on edges joins (take i targets) → GrownSoFar m root after whole more (take (i + 1) targets)
so_far_more m root on after edges whole joins more targets i d j within tells target joined is so_far = grind (arith, take_more targets i d within, map_push, append_assoc)

-- of two different edges the one that does not come later comes before
before_is : (e f : Edge) → (IsEdgeBefore f e → ⊥) → (e ≡ f → ⊥) → IsEdgeBefore e f
before_is e f never apart = grind (arith, cases_order e.chip.x f.chip.x, cases_order e.chip.y f.chip.y, cases_order (dir_number e.dir) (dir_number f.dir), same_edge, same_chip, dir_eq_true, eq-eqb)

-- on a machine without dead parts each link that leads somewhere is live
live_link : (m : Description) (c e : Chip) (d : Dir) → IsWithoutDead m → IsInside m c → IsInside m e → far_of m c d ≡ Some e → IsLiveLink m c d
live_link m c e d dead c_in e_in far = grind (arith, and_from _ _ (and_from _ _ (and_from _ _ c_in refl) (and_from _ _ e_in refl)) refl, and_from _ _ (and_from _ _ c_in refl) (and_from _ _ e_in refl))

-- What the whole tree is, once its edges are put in order.
pub record Finished (m : Description) (root : Chip) (targets : List Chip) (joins : List Join) (edges : List Edge) : Type 0 where
  pub is_grown : IsGrown m root targets joins edges
  pub inside : All (λ e. IsInside m e.chip) edges
  pub none_into_root : All (λ e. end_of m e ≢ Some root) edges
  pub one_into_each : AllPairs (λ e f. (c : Chip) → end_of m e ≡ Some c → end_of m f ≢ Some c) edges
  pub few : length edges ≤ distance_sum m root targets
  pub live : All (λ e. IsLiveLink m e.chip e.dir) edges → 0 < length targets → IsTreeTo m root edges targets
  pub routing : IsWithoutDead m → 0 < length targets → IsTreeTo m root edges targets

-- an edge of the tree begins at the root, or the root is the only chip that the path leads to
root_goes : (m : Description) (root : Chip) (targets : List Chip) (es : List Edge) (t : Chip) (path : List Edge) → IsPath m es root path t → Contains targets t →
    Any (λ e. e.chip ≡ root) es ⊎ Contains targets root
root_goes m root targets es t [] is has = inr (subst (λ (c : Chip). Contains targets c) (sym is) has)
root_goes m root targets es t (e ∷ path) is has = inl (is.0.0, e, is.0.1, is.0.2, is.1)

pub finished : (m : Description) (root : Chip) (targets : List Chip) (joins : List Join) (on : List Bool) (whole edges : List Edge) → HasSize m → IsInside m root →
    All (IsInside m) targets → GrownSoFar m root on whole joins targets → IsPermutation whole edges → AllPairs (λ e f. IsEdgeBefore f e → ⊥) edges → Finished m root targets joins edges
finished m root targets joins on whole edges size root_in targets_in so_far perm rises =
    let grows : Grows m root [] joins whole = subst (λ js. Grows m root [] js whole) (append-nil joins) (so_far.grows [] whole refl) in
    let wanted : (t : Chip) → Contains (map (λ j. j.target) joins) t → Contains targets t = λ t has. subst (λ ts. Contains ts t) so_far.targets has in
    let out : Outcome m root targets [] whole joins =
    grown m root root_in targets (λ t has. All-contains (IsInside m) targets t targets_in has) (λ p q pi qi. ldf_walks m p q size pi qi) joins [] whole wanted (spanning_root m root)
    (λ c on'. elim (tree_cases m root [] c on') [
      | inl at ↦ inl at
      | inr into ↦ absurd (let none : into.1.0 < 0 = into.1.1 in omega arith)
    ]) grows in
    let to : (e : Edge) → Contains edges e → Contains whole e = λ e has. Contains-permutation edges whole e (IsPermutation-sym whole edges perm) has in
    let back' : (e : Edge) → Contains whole e → Contains edges e = λ e has. Contains-permutation whole edges e perm has in
    let apart : AllPairs (λ e f. end_of m e ≢ end_of m f) edges = AllPairs-permutation (λ e f. end_of m e ≢ end_of m f) (λ e f differ' same. differ' (sym same)) whole edges perm out.spans.apart in
    let at : (k : ℕ) (d : Edge) → k < length edges → Contains whole (get_or edges k d) = λ k d within. to (get_or edges k d) (Contains-get_or edges k d within) in
    let inside : All (λ e. IsInside m e.chip) edges = λ k d within. out.spans.inside (get_or edges k d) (at k d within) in
    let none_into : All (λ e. end_of m e ≢ Some root) edges = λ k d within. out.spans.none_into_root (get_or edges k d) (at k d within) in
    let has_target : (t : Chip) → Contains targets t → IsTreeChip m root whole t = λ t has. out.has t (subst (λ ts. Contains ts t) (sym so_far.targets) has) in
    let long : length edges ≡ length whole = length_permutation whole edges perm in
    let most : length whole ≤ length {A = Edge} [] + sum_by (distance_of m root) (map (λ j. j.target) joins) = out.few in
    let sums : sum_by (distance_of m root) (map (λ j. j.target) joins) ≡ sum_by (distance_of m root) targets = ap (sum_by (distance_of m root)) so_far.targets in
    let whole_where_live : All (λ e. IsLiveLink m e.chip e.dir) edges → 0 < length targets → IsTreeTo m root edges targets = λ lives some. record {
      edges_live = lives;
      edges_begin = λ k d within. chip_in m root whole edges back' (get_or edges k d).chip (out.spans.begins (get_or edges k d) (at k d within));
      none_into_root = none_into;
      one_into_each = apart;
      reached = λ c on'.
          let way = out.spans.reached c (chip_in m root edges whole to c on') in
          (way.0, path_in m whole edges back' root way.0 c way.1);
      has_targets = λ k d within. chip_in m root whole edges back' (get_or targets k d) (has_target (get_or targets k d) (Contains-get_or targets k d within));
      ends_are_targets = λ c on'. elim (out.ended c (chip_in m root edges whole to c on')) [
        | inr (inl goes) ↦ (let has = back' goes.0 goes.1 in inl (has.0, goes.0, has.1, has.2, goes.2))
        | inr (inr target) ↦ inr target
        | inl is_root ↦
            let t : Chip = get_or targets 0 root in
            let has : Contains targets t = Contains-get_or targets 0 root some in
            let way = out.spans.reached t (has_target t has) in
            subst (λ (x : Chip). Any (λ e. e.chip ≡ x) edges ⊎ Contains targets x) (sym is_root)
            (root_goes m root targets edges t way.0 (path_in m whole edges back' root way.0 t way.1) has)
      ];
    } in
    record {
      is_grown = record {
        each_joined = so_far.targets;
        whole = whole;
        grows = grows;
        same_edges = λ e. (to e, back' e);
        in_order = λ i j d less short.
            before_is (get_or edges i d) (get_or edges j d) (rises i j d less short) (λ same. apart i j d less short (ap (end_of m) same));
      };
      inside = inside;
      none_into_root = none_into;
      one_into_each = λ i j d less short c p q. apart i j d less short (p ∙ sym q);
      few = omega (arith, long, most, sums);
      live = whole_where_live;
      routing = λ dead. whole_where_live (λ k d within.
          let e : Edge = get_or edges k d in
          let leads = out.spans.leads e (at k d within) in
          live_link m e.chip leads.0 e.dir dead (inside k d within) (far_inside m e.chip leads.0 e.dir (inside k d within) leads.1) leads.1);
    }

pub finished_at : (m : Description) (root : Chip) (targets items : List Chip) (joins : List Join) (on : List Bool) (whole edges result : List Edge) (i : ℕ) → HasSize m → IsInside m root →
    All (IsInside m) targets → items ≡ targets → length items ≤ i → GrownSoFar m root on whole joins (take i targets) → IsPermutation whole edges →
    AllPairs (λ e f. IsEdgeBefore f e → ⊥) edges → result ≡ edges → Finished m root targets joins result
finished_at m root targets items joins on whole edges result i size root_in targets_in same past so_far perm rises is =
    let all : take i targets ≡ targets = take_all i targets (subst (λ ts. length ts ≤ i) same past) in
    subst (λ es. Finished m root targets joins es) (sym is)
    (finished m root targets joins on whole edges size root_in targets_in (subst (λ ts. GrownSoFar m root on whole joins ts) all so_far) perm rises)
