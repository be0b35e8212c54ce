-- What a machine is to a contract.
use Rattle.std.specs.Prelude.{ℕ, ◌≤◌, Bool, List}
use Rattle.spin_base.specs.declared.chips.Chip.{Chip}
use Rattle.spin_base.specs.declared.chips.Spot.{Spot}
use Rattle.machine_desc.specs.declared.trees.Edge.{Edge}

-- A grid of width times height chips, closed to a torus or not, the bytes of shared memory of each chip, and the
-- chips, cores and links that are listed dead (SpiNNaker datasheet for grid and links, the lists this project's own).
pub record Description : Type 0 where
  pub width : ℕ
  pub height : ℕ
  pub wrap : Bool
  pub sdram : ℕ
  pub dead_chips : List Chip
  pub dead_cores : List Spot
  pub dead_links : List Edge

-- A machine has 1 to 64 chips along each axis (this project's own).
pub record HasSize (m : Description) : Type 0 where
  pub width_from_one : 1 ≤ m.width
  pub width_to_64 : m.width ≤ 64
  pub height_from_one : 1 ≤ m.height
  pub height_to_64 : m.height ≤ 64
