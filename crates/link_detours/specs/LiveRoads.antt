-- The live links of a machine, as bits.
use Rattle.std.specs.Prelude.{◌≡◌, ◌+◌, ◌*◌, ◌≤◌, ◌↔◌, length, slice_index}
use Rattle.std.specs.Int.{bit_at}
use Rattle.spin_base.specs.{declared.chips.Chip.Chip, declared.chips.Dir.Dir, Links.dir_number}
use Rattle.machine_desc.specs.{Description.Description, Live.IsInside, Live.IsLiveLink}
use Rattle.link_detours.specs.declared.roads.Roads.{Roads}

-- The roads are a machine's where each bit is set exactly where that link lives (this project's own). A column of chips has
-- six words, one a link number, and bit y of a word is of the chip at y.
pub record AreRoadsOf (m : Description) (roads : Roads) : Type 0 where
  pub few : m.height ≤ 64
  pub long : length roads.words.items ≡ m.width * 6
  pub told : (c : Chip) (d : Dir) → IsInside m c → (bit_at (slice_index roads.words.items (c.x * 6 + dir_number d)) c.y ≡ 1) ↔ IsLiveLink m c d
