-- Which cores of a host are free, as a machine on which vertices are placed (this project's own).
use Rattle.std.specs.Prelude.{List, [], ◌++◌, filter, not}
use Rattle.spin_base.specs.declared.chips.Spot.{Spot}
use Rattle.machine_desc.specs.Description.{Description}
use Rattle.machine_desc.specs.Live.{is_usable}
use Rattle.app_loads.specs.Host.{Host, all_spots}
use Rattle.app_loads.specs.Opening.{grid_spots}

-- the cores 1 to 17 of all chips that are not usable: those that are dead, and those of dead chips
abbrev pub unusable_spots : Description → List Spot
unusable_spots m = filter (λ (s : Spot). not (is_usable m s)) (grid_spots m)

-- The grid and the memory are those of the host's machine. Dead are the cores that are not usable there, and the spots of loaded
-- applications: all that are not free. No link is listed, since vertices that are no devices stand on cores whatever links are dead.
abbrev pub free_machine : Host → Description
free_machine h = record {
  width = h.mesh.setup.machine.width;
  height = h.mesh.setup.machine.height;
  wrap = h.mesh.setup.machine.wrap;
  sdram = h.mesh.setup.machine.sdram;
  dead_chips = [];
  dead_cores = unusable_spots h.mesh.setup.machine ++ all_spots h.apps;
  dead_links = [];
}

-- the same where these spots are taken too
abbrev pub free_but : Host → List Spot → Description
free_but h spots = record (free_machine h) { dead_cores = (free_machine h).dead_cores ++ spots }
