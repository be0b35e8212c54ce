-- The kept edges are a whole tree, and a whole tree stays one as targets are joined.
use Rattle.link_detours.proofs.Common.{All, All-contains, All-push, All-weaker, AllPairs, Bool, Chip, Contains, Contains-filter, Contains-from_filter, Contains-get_or, Description, Edge, EdgeStep}
use Rattle.link_detours.proofs.Common.{IsCutOff, IsDetour, IsFirstTargetCutOff, IsInside, IsKeptEdge, IsTreeChip, IsWholeTree, Joins, List, LiveEdgeStep, Some, Steps, [], ap, arith, cases_order}
use Rattle.link_detours.proofs.Common.{end_of, filter, get_or, get_or-take, get_or_default, get_or_from_slice_get, inl, inr, is_live_link, is_marked, length, length-take, more_chips, slice_get}
use Rattle.link_detours.proofs.Common.{slice_get_within, subst, suc, sym, take, take_more, tree_cases, true, zero, ℕ, ◌++◌, ◌+◌, ◌<◌, ◌↔◌, ◌∙◌, ◌∷◌, ◌≡◌, ◌≢◌}
use Rattle.link_detours.proofs.{Reaching.link_inside, Stepping.Steps-map, Putting.TellsTree, Walks.steps_walk, Wholes.steps_on_tree, Wholes.live_steps, Wholes.detoured, Wholes.Joins-more}

module _ (m : Description) (root : Chip) (edges : List Edge) (marks : List Bool) where
  abbrev pub live_of : List Edge
  live_of = filter (λ e. is_live_link m e.chip e.dir) edges

  abbrev pub kept_of : List Edge
  kept_of = filter (λ e. is_marked m marks e.chip) live_of

-- live edges begin inside the grid
pub live_edges_inside : (m : Description) (edges : List Edge) → All (λ e. IsInside m e.chip) (filter (λ e. is_live_link m e.chip e.dir) edges)
live_edges_inside m edges k d h =
    let e : Edge = get_or (filter (λ f. is_live_link m f.chip f.dir) edges) k d in
    let known = Contains-from_filter (λ f. is_live_link m f.chip f.dir) edges e (Contains-get_or (filter (λ f. is_live_link m f.chip f.dir) edges) k d h) in
    link_inside m e.chip e.dir known.1

module _ (m : Description) (root : Chip) (edges : List Edge) (marks : List Bool) (root_inside : IsInside m root)
    (none_into : All (λ e. end_of m e ≢ Some root) edges)
    (one_into : AllPairs (λ e f. (c : Chip) → end_of m e ≡ Some c → end_of m f ≢ Some c) edges)
    (reach : (c : Chip) → IsInside m c → (is_marked m marks c ≡ true) ↔ ((n : ℕ) × Steps (EdgeStep m (live_of m root edges marks)) n root c)) where
  -- the marked chips are those that live edges join to the root
  reach_live : (c : Chip) → IsInside m c → (is_marked m marks c ≡ true) ↔ ((n : ℕ) × Steps (LiveEdgeStep m edges) n root c)
  reach_live c inside = (
    λ marked.
        let way = (reach c inside).0 marked in (
          way.0,
          Steps-map (EdgeStep m (live_of m root edges marks)) (LiveEdgeStep m edges) (λ a b step.
              let live = Contains-from_filter (λ f. is_live_link m f.chip f.dir) edges (record { chip = a; dir = step.0 }) step.1 in
              (step.0, live.0, live.1, step.2)) way.0 root c way.1,
        ),
    λ way. (reach c inside).1 (
      way.0,
      Steps-map (LiveEdgeStep m edges) (EdgeStep m (live_of m root edges marks)) (λ a b step.
          (step.0, Contains-filter (λ f. is_live_link m f.chip f.dir) edges (record { chip = a; dir = step.0 }) step.1 step.2, step.3)) way.0 root c way.1,
    ),
  )

  pub kept_is : (e : Edge) → Contains (kept_of m root edges marks) e ↔ IsKeptEdge m root edges e
  kept_is e = (
    λ has.
        let kept = Contains-from_filter (λ f. is_marked m marks f.chip) (live_of m root edges marks) e has in
        let live = Contains-from_filter (λ f. is_live_link m f.chip f.dir) edges e kept.0 in
        (live.0, live.1, (reach_live e.chip (link_inside m e.chip e.dir live.1)).0 kept.1),
    λ known.
        Contains-filter (λ f. is_marked m marks f.chip) (live_of m root edges marks) e (Contains-filter (λ f. is_live_link m f.chip f.dir) edges e known.0 known.1)
        ((reach_live e.chip (link_inside m e.chip e.dir known.1)).1 known.2),
  )

  kept_steps : (n : ℕ) (c : Chip) → Steps (LiveEdgeStep m edges) n root c → Steps (EdgeStep m (kept_of m root edges marks)) n root c
  kept_steps zero c walk = walk
  kept_steps (suc n) c walk =
      let kept = (kept_is (record { chip = walk.0; dir = walk.2.0 })).1 (walk.2.1, walk.2.2, (n, walk.1)) in
      (walk.0, kept_steps n walk.0 walk.1, (walk.2.0, kept, walk.2.3))

  pub kept_whole : IsWholeTree m root (kept_of m root edges marks)
  kept_whole = record {
    live = λ e has. ((kept_is e).0 has).1;
    reached = λ c on. elim (tree_cases m root (kept_of m root edges marks) c on) [
      | inl at ↦ (0, sym at)
      | inr into ↦
          let known = (kept_is into.0).0 into.1 in
          (suc known.2.0, (into.0.chip, kept_steps known.2.0 into.0.chip known.2.1, (into.0.dir, into.1, into.2)))
    ];
    none_into_root = λ e has. All-contains (λ f. end_of m f ≢ Some root) edges e none_into ((kept_is e).0 has).0;
    begins = λ e has. let way = ((kept_is e).0 has).2 in steps_on_tree m root (kept_of m root edges marks) way.0 e.chip (kept_steps way.0 e.chip way.1);
    one_into = λ e f c has too leads also. same e f c ((kept_is e).0 has).0 ((kept_is f).0 too).0 leads also;
  }
    where
      same : (e f : Edge) (c : Chip) → Contains edges e → Contains edges f → end_of m e ≡ Some c → end_of m f ≡ Some c → e ≡ f
      same e f c has too leads also = elim (cases_order has.0 too.0) [
        | inl here ↦ sym has.2 ∙ (ap (λ k. get_or edges k e) here ∙ (get_or_default edges too.0 e f too.1 ∙ too.2))
        | inr (inl before) ↦
            let second : get_or edges too.0 e ≡ f = get_or_default edges too.0 e f too.1 ∙ too.2 in
            absurd (one_into has.0 too.0 e before too.1 c (ap (end_of m) has.2 ∙ leads) (ap (end_of m) second ∙ also))
        | inr (inr after) ↦
            let second : get_or edges has.0 f ≡ e = get_or_default edges has.0 f e has.1 ∙ has.2 in
            absurd (one_into too.0 has.0 f after has.1 c (ap (end_of m) too.2 ∙ also) (ap (end_of m) second ∙ leads))
      ]

-- the targets that were taken are joined
pub record JoinedSoFar (m : Description) (root : Chip) (kept : List Edge) (whole : List Edge) (chips : List ℕ) (taken : List Chip) : Type 0 where
  pub joins : Joins m root kept taken whole
  pub is_whole : IsWholeTree m root whole
  pub long : length chips ≡ m.width
  pub told : TellsTree m root whole chips
  pub on_tree : All (IsTreeChip m root whole) taken

pub joined_more : (m : Description) (root : Chip) (kept : List Edge) (whole after : List Edge) (chips more : List ℕ) (targets : List Chip) (i : ℕ)
    (d : Chip) (walk : List Edge) → i < length targets → after ≡ whole ++ walk → IsDetour m root whole (get_or targets i d) walk →
    length more ≡ m.width → TellsTree m root after more →
    JoinedSoFar m root kept whole chips (take i targets) → JoinedSoFar m root kept after more (take (i + 1) targets)
joined_more m root kept whole after chips more targets i d walk within is detour long told so_far =
    let t : Chip = get_or targets i d in
    let grown = detoured m root whole so_far.is_whole t walk detour in
    subst (λ ts. JoinedSoFar m root kept after more ts) (sym (take_more targets i d within)) (record {
      joins = subst (λ es. Joins m root kept (take i targets ++ t ∷ []) es) (sym is) (Joins-more m root kept (take i targets) whole t walk so_far.joins detour);
      is_whole = subst (λ es. IsWholeTree m root es) (sym is) grown.whole;
      long = long;
      told = told;
      on_tree = subst (λ es. All (IsTreeChip m root es) (take i targets ++ t ∷ [])) (sym is)
          (All-push (IsTreeChip m root (whole ++ walk)) (take i targets) t
          (All-weaker (IsTreeChip m root whole) (IsTreeChip m root (whole ++ walk)) (more_chips m root whole walk) (take i targets) so_far.on_tree)
          grown.there);
    })

-- the first target that is cut off
pub first_cut_off : (m : Description) (root : Chip) (kept : List Edge) (whole : List Edge) (chips : List ℕ) (targets : List Chip) (i : ℕ)
    (t : Chip) → slice_get targets i ≡ Some t → IsCutOff m root t → JoinedSoFar m root kept whole chips (take i targets) → IsFirstTargetCutOff m root targets t
first_cut_off m root kept whole chips targets i t at cut so_far = record {
  place = i;
  at_place = at;
  cut_off = cut;
  others_joined = λ j u before here.
      let within : j < length targets = slice_get_within targets j u here in
      let taken : j < length (take i targets) = rw (length-take i targets) (omega arith) in
      let is : get_or (take i targets) j u ≡ u = get_or-take i targets j u before ∙ get_or_from_slice_get targets j u u here in
      let on : IsTreeChip m root whole u = subst (λ (c : Chip). IsTreeChip m root whole c) is (so_far.on_tree j u taken) in
      let way = so_far.is_whole.reached u on in
      steps_walk m way.0 root u (live_steps m root whole so_far.is_whole way.0 root u way.1);
}
