-- Which targets no walk of live links reaches (this project's own).
use Rattle.std.specs.Prelude.{◌≡◌, ◌<◌, ℕ, List, Contains, Some, slice_get}
use Rattle.spin_base.specs.declared.chips.Chip.{Chip}
use Rattle.spin_base.specs.declared.chips.Spot.{Spot}
use Rattle.machine_desc.specs.Description.{Description}
use Rattle.app_graph.specs.declared.graphs.Net.{Net}
use Rattle.link_detours.specs.Repair.{IsCutOff}
use Rattle.net_plans.specs.Order.{IsBelow}
use Rattle.net_plans.specs.Targets.{chip_key}

-- A target chip of a net is cut off: the core of a target vertex is on it, and no walk of live links leads to it from the
-- chip of the net's source.
pub record IsCutOffIn (m : Description) (spots : List Spot) (net : Net) (source : Spot) (chip : Chip) : Type 0 where
  pub from : slice_get spots net.source ≡ Some source
  pub vertex : ℕ
  pub is_target : Contains net.targets vertex
  pub spot : Spot
  pub at : slice_get spots vertex ≡ Some spot
  pub on : spot.chip ≡ chip
  pub cut_off : IsCutOff m source.chip chip

-- no target of a net is cut off
abbrev pub HasNoneCutOff : Description → List Spot → Net → Type 0
HasNoneCutOff m spots net = (source : Spot) (chip : Chip) → IsCutOffIn m spots net source chip → ⊥

-- The first target chip of a net that is cut off: none before it is, in the order of the distance from the source's chip, then
-- x, then y.
pub record IsFirstCutOffIn (m : Description) (spots : List Spot) (net : Net) (chip : Chip) : Type 0 where
  pub source : Spot
  pub is : IsCutOffIn m spots net source chip
  pub first : (other : Chip) → IsCutOffIn m spots net source other → IsBelow (chip_key m source.chip other) (chip_key m source.chip chip) → ⊥

-- The first net with a target that is cut off, and its first such target.
pub record IsFirstNetCutOff (m : Description) (spots : List Spot) (nets : List Net) (i : ℕ) (chip : Chip) : Type 0 where
  pub net : Net
  pub is : slice_get nets i ≡ Some net
  pub target : IsFirstCutOffIn m spots net chip
  pub before : (j : ℕ) (earlier : Net) → j < i → slice_get nets j ≡ Some earlier → HasNoneCutOff m spots earlier
