-- Trees of which nothing has to be taken off.
use Rattle.link_detours.proofs.Common.{All, All-append, All-contains, All-map, All-more, Any, AreInPlaceOrder, Bool, Chip, Contains, Contains-append_cases, Contains-get_or, Contains-unmap}
use Rattle.link_detours.proofs.Common.{Description, Edge, EdgeStep, GoesOnFrom, IsInside, IsTreeChip, IsTreeTo, IsWholeTree, LeadsToTarget, List, Some, Steps, all_pairs_push, arith, end_of}
use Rattle.link_detours.proofs.Common.{far_inside, get_or, inl, inr, is_marked, length, link_place, live_ends, map, subst, suc, sym, take, take_more, tree_cases, true, zero, ℕ, ◌++◌, ◌+◌, ◌<◌, ◌↔◌}
use Rattle.link_detours.proofs.Common.{◌≡◌, ◌≤◌}
use Rattle.link_detours.proofs.{Stepping.Steps-first, Stepping.Steps-map, Pruning.tree_kept, Unchanged.tree_leads}

-- one edge more is in order, where its place is no less than the least that may come
pub order_more : (m : Description) (edges : List Edge) (i : ℕ) (d : Edge) (least place : ℕ) → i < length edges →
    place ≡ link_place m (get_or edges i d).chip (get_or edges i d).dir → least ≤ place →
    AreInPlaceOrder m (take i edges) → All (λ e. link_place m e.chip e.dir < least) (take i edges) →
    AreInPlaceOrder m (take (i + 1) edges) × All (λ e. link_place m e.chip e.dir < place + 1) (take (i + 1) edges)
order_more m edges i d least place within is low ordered below = (
  subst (λ es. AreInPlaceOrder m es) (sym (take_more edges i d within))
      (all_pairs_push (λ e f. link_place m e.chip e.dir < link_place m f.chip f.dir) (take i edges) (get_or edges i d) ordered
      (λ k f h. let before : link_place m (get_or (take i edges) k f).chip (get_or (take i edges) k f).dir < least = below k f h in
      subst (λ n. link_place m (get_or (take i edges) k f).chip (get_or (take i edges) k f).dir < n) is (omega (arith, before, low)))),
  All-more (λ e. link_place m e.chip e.dir < place + 1) edges i d within
      (λ k f h. let before : link_place m (get_or (take i edges) k f).chip (get_or (take i edges) k f).dir < least = below k f h in omega (arith, before, low))
      (subst (λ n. n < place + 1) is (omega arith)),
)

-- what an item of a mapped list comes from
map_has : (edges : List Edge) (c : Chip) → Contains (map (λ e. e.chip) edges) c → Any (λ e. e.chip ≡ c) edges
map_has edges c has = let (e, (k, within, at), is) = Contains-unmap (λ (e : Edge). e.chip) edges c has in (k, e, within, at, is)

-- targets and chips at which edges begin are inside the grid
pub chips_inside : (m : Description) (edges : List Edge) (targets : List Chip) → All (λ e. IsInside m e.chip) edges → All (IsInside m) targets →
    All (IsInside m) (targets ++ map (λ e. e.chip) edges)
chips_inside m edges targets inside targets_inside = All-append (IsInside m) targets (map (λ e. e.chip) edges) targets_inside (All-map (IsInside m) (λ (e : Edge). e.chip) edges inside)

-- edges that end at chips which a table lists go on
pub goes_on : (m : Description) (edges : List Edge) (targets chips : List Chip) (table : List Bool) → chips ≡ targets ++ map (λ e. e.chip) edges →
    All (λ e. IsInside m e.chip) edges → ((c : Chip) → IsInside m c → is_marked m table c ≡ true → Contains chips c) →
    All (λ e. (c : Chip) → end_of m e ≡ Some c → is_marked m table c ≡ true) edges →
    All (λ e. (c : Chip) → end_of m e ≡ Some c → GoesOnFrom edges targets c) edges
goes_on m edges targets chips table is inside listed marked k d h c leads =
    let e : Edge = get_or edges k d in
    let has : Contains chips c = listed c (far_inside m e.chip c e.dir (inside k d h) leads) (marked k d h c leads) in
    elim (Contains-append_cases targets (map (λ e. e.chip) edges) c (subst (λ cs. Contains cs c) is has)) [
      | inl target ↦ inr target
      | inr begin ↦ inl (map_has edges c begin)
    ]

-- a chip from which steps lead to a target goes on
steps_on : (m : Description) (tree : List Edge) (targets : List Chip) (n : ℕ) (c t : Chip) → Contains targets t → Steps (EdgeStep m tree) n c t → GoesOnFrom tree targets c
steps_on m tree targets zero c t has walk = inr (subst (λ (x : Chip). Contains targets x) (sym walk) has)
steps_on m tree targets (suc n) c t has walk = grind (arith, Steps-first (EdgeStep m tree) n c t walk)

-- ---- the same edges in another order

module _ (m : Description) (root : Chip) (tree others : List Edge) (same : (e : Edge) → Contains others e ↔ Contains tree e) (targets : List Chip) where
  still_goes : (c : Chip) → GoesOnFrom tree targets c → GoesOnFrom others targets c
  still_goes c (inl begins) = (let there = (same begins.1).1 (begins.0, begins.2, begins.3) in inl (there.0, begins.1, there.1, there.2, begins.4))
  still_goes c (inr target) = inr target

  -- A whole tree whose edges all go on is a tree to its targets, once they are in order.
  lean_tree : IsWholeTree m root tree → 0 < length targets → All (IsTreeChip m root tree) targets → AreInPlaceOrder m others →
      All (λ e. (c : Chip) → end_of m e ≡ Some c → GoesOnFrom tree targets c) tree → IsTreeTo m root others targets
  lean_tree is some on_tree ordered goes =
      tree_kept m root tree targets others is (λ t has. All-contains (IsTreeChip m root tree) targets t on_tree has) some ordered (λ _. Unit {0})
      (λ e. (
        λ has. let mine = (same e).0 has in let ends = live_ends m e.chip e.dir (is.live e mine) in (mine, (ends.0, ends.1, tt)),
        λ known. (same e).1 known.0,
      )) (λ e c has leads on. tt) (λ t has. tt)
      (λ c on _. still_goes c (elim (tree_cases m root tree c on) [
        | inl at ↦
            let t : Chip = get_or targets 0 c in
            let way = is.reached t (on_tree 0 c some) in
            steps_on m tree targets way.0 c t (Contains-get_or targets 0 c some) (subst (λ (x : Chip). Steps (EdgeStep m tree) way.0 x t) (sym at) way.1)
        | inr into ↦ All-contains (λ e. (x : Chip) → end_of m e ≡ Some x → GoesOnFrom tree targets x) tree into.0 goes into.1 c into.2
      ]))

  -- So all its edges stay.
  pub sorted_stay : IsWholeTree m root tree → 0 < length targets → All (IsTreeChip m root tree) targets → AreInPlaceOrder m others →
      All (λ e. (c : Chip) → end_of m e ≡ Some c → GoesOnFrom tree targets c) tree →
      (e : Edge) → Contains others e ↔ (Contains tree e × LeadsToTarget m tree targets e)
  sorted_stay is some on_tree ordered goes e = (
    λ has.
        let by = tree_leads m root others targets (lean_tree is some on_tree ordered goes) e has in (
          (same e).0 has,
          (
            by.0,
            by.1,
            (
              by.2.0,
              by.2.1,
              (
                by.2.2.0,
                Steps-map (EdgeStep m others) (EdgeStep m tree) (λ a b step. (step.0, (same (record { chip = a; dir = step.0 })).0 step.1, step.2))
                    by.2.2.0 by.0 by.2.0 by.2.2.1,
              ),
            ),
          ),
        ),
    λ both. (same e).1 both.0,
  )
