-- The targets of a net, and their chips in the order in which a tree grows to them (this project's own).
use Rattle.std.specs.Prelude.{◌≡◌, ℕ, List, AllPairs, Contains, Some, slice_get}
use Rattle.spin_base.specs.declared.chips.Chip.{Chip}
use Rattle.spin_base.specs.declared.chips.Spot.{Spot}
use Rattle.machine_desc.specs.Description.{Description}
use Rattle.ner_trees.specs.Geometry.{distance_of}
use Rattle.net_plans.specs.Order.{IsBelow}

-- targets are ordered by x, then y, then core
abbrev pub spot_key : Spot → ℕ × ℕ × ℕ
spot_key s = (s.chip.x, s.chip.y, s.core)

-- The targets of a net are the cores of its target vertices, each once, in that order.
pub record AreTargets (spots : List Spot) (vertices : List ℕ) (targets : List Spot) : Type 0 where
  pub ascending : AllPairs (λ a b. IsBelow (spot_key a) (spot_key b)) targets
  pub each : (v : ℕ) (s : Spot) → Contains vertices v → slice_get spots v ≡ Some s → Contains targets s
  pub only : (s : Spot) → Contains targets s → (v : ℕ) × Contains vertices v × (slice_get spots v ≡ Some s)

-- target chips are ordered by the distance from the root, then x, then y
abbrev pub chip_key : Description → Chip → Chip → ℕ × ℕ × ℕ
chip_key m root c = (distance_of m root c, c.x, c.y)

-- The target chips of a net are the chips of its targets, each once, in that order.
pub record AreTargetChips (m : Description) (root : Chip) (targets : List Spot) (chips : List Chip) : Type 0 where
  pub ascending : AllPairs (λ a b. IsBelow (chip_key m root a) (chip_key m root b)) chips
  pub each : (s : Spot) → Contains targets s → Contains chips s.chip
  pub only : (c : Chip) → Contains chips c → (s : Spot) × Contains targets s × (s.chip ≡ c)
