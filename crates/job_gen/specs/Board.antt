-- The machine of a generated job: a grid of 8 by 8 of which 48 chips are there (SpiNNaker's SpiNN-5 board has these chips).
use Rattle.std.specs.Prelude.{ℕ, [], map, false}
use Rattle.spin_base.specs.declared.chips.Chip.{Chip}
use Rattle.machine_desc.specs.Description.{Description}
use Rattle.job_gen.specs.Values.{dead_pairs}

abbrev pub chip_of_pair : ℕ × ℕ → Chip
chip_of_pair p = record { x = p.0; y = p.1 }

-- Each chip has all its memory, and no core and no link is listed dead.
unfoldable pub generated_board : Description
generated_board = record {
  width = 8;
  height = 8;
  wrap = false;
  sdram = 134217728;
  dead_chips = map chip_of_pair dead_pairs;
  dead_cores = [];
  dead_links = [];
}
