-- The repaired tree: what is kept of a tree whose links may be dead, and how its targets are joined again.
use Rattle.std.specs.Prelude.{◌≡◌, ◌≢◌, ℕ, ◌<◌, ◌≤◌, List, [], ◌∷◌, ◌++◌, Some, All, Contains, AllPairs, ◌↔◌, slice_get}
use Rattle.std.proofs.Common.{suc}
use Rattle.spin_base.specs.{declared.chips.Chip.Chip, declared.chips.Dir.Dir, Links.dir_number}
use Rattle.machine_desc.specs.{declared.trees.Edge.Edge, Description.Description, Flags.link_place, RoutingTree.end_of, RoutingTree.IsTreeChip}
use Rattle.machine_desc.specs.Live.{far_of, IsLiveChip, IsLiveLink, LeadsTo, IsLiveWalk}
use Rattle.link_detours.specs.Steps.{Steps, IsStepLevel}

-- A tree of which links may be dead: its root lives, no edge leads into the root, and no two lead into one chip.
pub record IsTreeWithDeadLinks (m : Description) (root : Chip) (edges : List Edge) : Type 0 where
  pub root_lives : IsLiveChip m root
  pub none_into_root : All (λ e. end_of m e ≢ Some root) edges
  pub one_into_each : AllPairs (λ e f. (c : Chip) → end_of m e ≡ Some c → end_of m f ≢ Some c) edges

-- a step by an edge of the list
abbrev pub EdgeStep : Description → List Edge → Chip → Chip → Type 0
EdgeStep m edges a b = (d : Dir) × Contains edges (record { chip = a; dir = d }) × (far_of m a d ≡ Some b)

-- a step by a live edge of the list
abbrev pub LiveEdgeStep : Description → List Edge → Chip → Chip → Type 0
LiveEdgeStep m edges a b = (d : Dir) × Contains edges (record { chip = a; dir = d }) × IsLiveLink m a d × (far_of m a d ≡ Some b)

-- Kept are the edges that are joined to the root by live links of the tree (this project's own).
abbrev pub IsKeptEdge : Description → Chip → List Edge → Edge → Type 0
IsKeptEdge m root edges e = Contains edges e × IsLiveLink m e.chip e.dir × ((n : ℕ) × Steps (LiveEdgeStep m edges) n root e.chip)

-- the number of live links from a tree to a chip
abbrev pub IsTreeLevel : Description → Chip → List Edge → Chip → ℕ → Type 0
IsTreeLevel m root tree c n = IsStepLevel (LeadsTo m) (IsTreeChip m root tree) c n

-- The last link of a detour to c comes from a chip whose level is one less, and of all live links that do so it has the
-- least number (this project's own).
pub record IsLastLink (m : Description) (root : Chip) (tree : List Edge) (c : Chip) (e : Edge) : Type 0 where
  pub level : ℕ
  pub here : IsTreeLevel m root tree c (suc level)
  pub there : IsTreeLevel m root tree e.chip level
  pub lives : IsLiveLink m e.chip e.dir
  pub leads : end_of m e ≡ Some c
  pub least : (f : Edge) → IsTreeLevel m root tree f.chip level → IsLiveLink m f.chip f.dir → end_of m f ≡ Some c →
      dir_number e.dir ≤ dir_number f.dir

-- A detour to c is found backwards, last link first, until a chip of the tree: a chip of the tree needs none.
abbrev pub IsDetour : Description → Chip → List Edge → Chip → List Edge → Type 0
IsDetour m root tree c [] = IsTreeChip m root tree c
IsDetour m root tree c (e ∷ walk) = IsLastLink m root tree c e × IsDetour m root tree e.chip walk

-- The targets are taken in the order of their list, and each is joined to the tree as it is then.
abbrev pub Joins : Description → Chip → List Edge → List Chip → List Edge → Type 0
Joins m root tree [] whole = tree ≡ whole
Joins m root tree (t ∷ targets) whole = (walk : List Edge) × IsDetour m root tree t walk × Joins m root (tree ++ walk) targets whole

-- a target stands at the far end of the edge, or below it
abbrev pub LeadsToTarget : Description → List Edge → List Chip → Edge → Type 0
LeadsToTarget m tree targets e =
    (c : Chip) × (end_of m e ≡ Some c) × ((t : Chip) × Contains targets t × ((n : ℕ) × Steps (EdgeStep m tree) n c t))

-- edges stand in order of x, y and link number
abbrev pub AreInPlaceOrder : Description → List Edge → Type 0
AreInPlaceOrder m edges = AllPairs (λ e f. link_place m e.chip e.dir < link_place m f.chip f.dir) edges

-- The repaired tree has, of the kept edges and the detours of the targets, those that lead to a target, in order.
pub record IsRepaired (m : Description) (root : Chip) (edges : List Edge) (targets : List Chip) (result : List Edge) : Type 0 where
  pub kept : List Edge
  pub kept_is : (e : Edge) → Contains kept e ↔ IsKeptEdge m root edges e
  pub whole : List Edge
  pub joined : Joins m root kept targets whole
  pub result_is : (e : Edge) → Contains result e ↔ (Contains whole e × LeadsToTarget m whole targets e)
  pub in_order : AreInPlaceOrder m result

-- the last of an item and those after it
abbrev pub last_of : {X : Type 0} → X → List X → X
last_of x [] = x
last_of x (y ∷ ys) = last_of y ys

-- a walk of live links leads from the first chip over these to the second
abbrev pub IsWalkTo : Description → Chip → Chip → List Chip → Type 0
IsWalkTo m a c walk = IsLiveWalk m (a ∷ walk) × (last_of a walk ≡ c)

-- no walk of live links joins the root and the chip
abbrev pub IsCutOff : Description → Chip → Chip → Type 0
IsCutOff m root c = (walk : List Chip) → IsWalkTo m root c walk → ⊥

-- the first target in the order of the list that is cut off
pub record IsFirstTargetCutOff (m : Description) (root : Chip) (targets : List Chip) (t : Chip) : Type 0 where
  pub place : ℕ
  pub at_place : slice_get targets place ≡ Some t
  pub cut_off : IsCutOff m root t
  pub others_joined : (j : ℕ) (u : Chip) → j < place → slice_get targets j ≡ Some u → (walk : List Chip) × IsWalkTo m root u walk
