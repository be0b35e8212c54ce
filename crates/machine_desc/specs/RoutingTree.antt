-- Routing trees: which lists of edges lead a packet from a root to all its target chips.
use Rattle.std.specs.Prelude.{◌≡◌, ◌≢◌, List, [], ◌∷◌, Option, Some, map, ◌⊎◌, Any, All, AllPairs, Contains}
use Rattle.spin_base.specs.declared.chips.Chip.{Chip}
use Rattle.spin_base.specs.declared.chips.Spot.{Spot}
use Rattle.machine_desc.specs.declared.trees.Edge.{Edge}
use Rattle.machine_desc.specs.Description.{Description}
use Rattle.machine_desc.specs.Live.{far_of, IsLiveLink}

-- the chip into which an edge leads, if any
abbrev pub end_of : Description → Edge → Option Chip
end_of m e = far_of m e.chip e.dir

-- The chips of a tree are its root and the chips into which its edges lead.
abbrev pub IsTreeChip : Description → Chip → List Edge → Chip → Type 0
IsTreeChip m root edges c = (c ≡ root) ⊎ Any (λ e. end_of m e ≡ Some c) edges

-- the path goes from the first chip over edges of the list, each from where the one before leads, to the second chip
abbrev pub IsPath : Description → List Edge → Chip → List Edge → Chip → Type 0
IsPath m edges from [] to = from ≡ to
IsPath m edges from (e ∷ path) to =
    Contains edges e × (e.chip ≡ from) × ((c : Chip) × (end_of m e ≡ Some c) × IsPath m edges c path to)

-- A tree over live links leads from its root to all target chips and to no end that is none (this project's own; trees as in
-- Navaridas and others, 2015). Of a root without edges it does not say that the chip is live.
pub record IsTreeTo (m : Description) (root : Chip) (edges : List Edge) (targets : List Chip) : Type 0 where
  -- each edge is a live link
  pub edges_live : All (λ e. IsLiveLink m e.chip e.dir) edges
  -- each edge begins at a chip of the tree
  pub edges_begin : All (λ e. IsTreeChip m root edges e.chip) edges
  -- no edge leads into the root
  pub none_into_root : All (λ e. end_of m e ≢ Some root) edges
  -- no two edges lead into one chip: exactly one leads into each chip but the root
  pub one_into_each : AllPairs (λ e f. end_of m e ≢ end_of m f) edges
  -- each chip is reached from the root by edges
  pub reached : (c : Chip) → IsTreeChip m root edges c → (path : List Edge) × IsPath m edges root path c
  -- each target chip is in the tree
  pub has_targets : All (IsTreeChip m root edges) targets
  -- each chip without an edge out of it is a target chip
  pub ends_are_targets : (c : Chip) → IsTreeChip m root edges c → Any (λ e. e.chip ≡ c) edges ⊎ Contains targets c

-- A routing tree for a list of targets, cores and devices, is a tree to their chips.
abbrev pub IsRoutingTree : Description → Chip → List Edge → List Spot → Type 0
IsRoutingTree m root edges targets = IsTreeTo m root edges (map (λ s. s.chip) targets)
