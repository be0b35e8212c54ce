-- What one net's plan gives, and what all plans give.
use Rattle.net_plans.proofs.Common.{All, All-at, All-contains, All-contains_itself, All-each, AreTargetChips, AreTargets, Block, Chip, Contains, Contains-map, Contains-unmap, Description, Edge, Grown}
use Rattle.net_plans.proofs.Common.{IsGrown, IsInside, IsLiveChip, IsPlannedNet, IsRepaired, IsSite, IsTreeChip, IsTreeTo, List, Net, Some, Spot, Tree, [], ap, arith, distance_sum, inl, inr, length}
use Rattle.net_plans.proofs.Common.{length-append, live_inside, map, nowhere, site_parts, slice_get, slice_get-get_or, slice_index_or, subst, ℕ, ◌++◌, ◌+◌, ◌<◌, ◌∙◌, ◌∷◌, ◌≡◌, ◌≤◌}

-- sites are on chips of the grid
pub all_inside : (m : Description) (spots : List Spot) → All (IsSite m) spots → All (λ s. IsInside m s.chip) spots
all_inside m spots sites k d below = let s : Spot = slice_index_or spots k d in live_inside m s.chip (site_parts m s (sites k d below)).0

pub source_lives : (m : Description) (spots : List Spot) (i : ℕ) (s : Spot) → All (IsSite m) spots → slice_get spots i ≡ Some s → IsLiveChip m s.chip
source_lives m spots i s sites at = (site_parts m s (All-at (IsSite m) spots i s sites at)).0

-- what holds of all vertices' cores holds of all targets
pub of_targets : (P : Spot → Type 0) (spots : List Spot) (vertices : List ℕ) (targets : List Spot) → AreTargets spots vertices targets → All P spots → All P targets
of_targets P spots vertices targets are all =
    All-each P targets (λ s has. let from = are.only s has in All-at P spots from.0 s all from.2)

-- what holds of all targets' chips holds of all target chips
pub of_chips : (P : Chip → Type 0) (m : Description) (root : Chip) (targets : List Spot) (chips : List Chip) → AreTargetChips m root targets chips → All (λ s. P s.chip) targets → All P chips
of_chips P m root targets chips are all =
    All-each P chips (λ c has. let from = are.only c has in subst P from.2 (All-contains (λ s. P s.chip) targets from.0 all from.1))

-- a tree to one list of chips is a tree to each list of the same chips
pub same_tree : (m : Description) (root : Chip) (edges : List Edge) (cs ds : List Chip) → IsTreeTo m root edges cs →
    ((c : Chip) → Contains cs c → Contains ds c) → ((c : Chip) → Contains ds c → Contains cs c) → IsTreeTo m root edges ds
same_tree m root edges cs ds tree there back = record {
  edges_live = tree.edges_live;
  edges_begin = tree.edges_begin;
  none_into_root = tree.none_into_root;
  one_into_each = tree.one_into_each;
  reached = tree.reached;
  has_targets = All-each (IsTreeChip m root edges) ds (λ c has. All-contains (IsTreeChip m root edges) cs c tree.has_targets (back c has));
  ends_are_targets = λ c in_tree. elim (tree.ends_are_targets c in_tree) [
    | inl out ↦ inl out
    | inr target ↦ inr (there c target)
  ];
}

-- a tree to the target chips is a tree to the chips of the targets
pub routes_targets : (m : Description) (from root : Chip) (edges : List Edge) (targets : List Spot) (chips : List Chip) → AreTargetChips m from targets chips → IsTreeTo m root edges chips →
    IsTreeTo m root edges (map (λ (s : Spot). s.chip) targets)
routes_targets m from root edges targets chips are tree =
    same_tree m root edges chips (map (λ (s : Spot). s.chip) targets) tree
    (λ c has.
    let from = are.only c has in
    subst (Contains (map (λ (s : Spot). s.chip) targets)) from.2 (Contains-map (λ (s : Spot). s.chip) targets from.0 from.1))
    (λ c has.
    let made = Contains-unmap (λ (s : Spot). s.chip) targets c has in
    subst (Contains chips) made.2 (are.each made.0 made.1))

-- a net with a target has a target chip
pub some_chip : (m : Description) (root : Chip) (spots : List Spot) (vertices : List ℕ) (targets : List Spot) (chips : List Chip) → AreTargets spots vertices targets → AreTargetChips m root targets chips →
    0 < length vertices → All (λ v. v < length spots) vertices → 0 < length chips
some_chip m root spots vertices targets chips are are_chips some within =
    let v : ℕ = slice_index_or vertices 0 0 in
    let has : Contains vertices v = All-contains_itself vertices 0 0 some in
    let below : v < length spots = within 0 0 some in
    let s : Spot = slice_index_or spots v nowhere in
    let at : slice_get spots v ≡ Some s = slice_get-get_or spots v nowhere below in
    let chip = are_chips.each s (are.each v s has at) in
    let inside = chip.1 in
    omega (arith, inside)

-- the plan of one net, from what the stages give
pub plan_is : (m : Description) (spots : List Spot) (net : Net) (keys : Block) (source : Spot) (targets : List Spot) (chips : List Chip) (growth : Grown) (tree : Tree) →
    slice_get spots net.source ≡ Some source → AreTargets spots net.targets targets → AreTargetChips m source.chip targets chips → growth.tree.root ≡ source.chip →
    IsGrown m source.chip chips growth.joins growth.tree.edges → length growth.tree.edges ≤ distance_sum m source.chip chips → tree.root ≡ growth.tree.root →
    IsRepaired m growth.tree.root growth.tree.edges chips tree.edges → IsPlannedNet m spots net keys (record { block = keys; source = source; targets = targets; tree = tree })
plan_is m spots net keys source targets chips growth tree at are are_chips from grown few root repaired = grind arith

-- ---- nets one after the other

pub long_more : {X : Type 0} (xs ys : List X) (x : X) (i : ℕ) → length xs ≡ i → ys ≡ xs ++ x ∷ [] → length ys ≡ i + 1
long_more xs ys x i long is = ap length is ∙ (length-append xs (x ∷ []) ∙ ap (λ n. n + 1) long)
