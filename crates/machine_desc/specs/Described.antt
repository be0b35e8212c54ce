-- What a contract sees of a machine, and what its tables keep.
use Rattle.std.specs.Prelude.{◌≡◌, ◌*◌, length}
use Rattle.machine_desc.specs.declared.machines.Machine.TheInside.{Inside}
use Rattle.machine_desc.specs.Description.{Description, HasSize}
use Rattle.machine_desc.specs.Live.{live_count_of}
use Rattle.machine_desc.specs.Tables.{TellsChips, TellsCores, TellsLinks, chip_total}

abbrev pub described : Inside → Description
described s = record {
  width = s.grid.width;
  height = s.grid.height;
  wrap = s.wrap;
  sdram = s.sdram;
  dead_chips = s.dead_chips;
  dead_cores = s.dead_cores;
  dead_links = s.dead_links;
}

-- The tables tell what is listed, and the live chips are counted.
pub record IsMachineTabled (s : Inside) : Type 0 where
  pub size : HasSize (described s)
  pub chips_long : length s.chip_listed.items ≡ chip_total s.grid
  pub chips_told : TellsChips s.grid s.chip_listed.items s.dead_chips
  pub cores_long : length s.core_listed.items ≡ chip_total s.grid * 18
  pub cores_told : TellsCores s.grid s.core_listed.items s.dead_cores
  pub links_long : length s.link_listed.items ≡ chip_total s.grid * 6
  pub links_told : TellsLinks s.grid s.link_listed.items s.dead_links
  pub live_counted : s.live_count ≡ live_count_of (described s)
