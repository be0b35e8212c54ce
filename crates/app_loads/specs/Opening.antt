-- A machine on which no application is loaded (this project's own).
use Rattle.std.specs.Prelude.{ℕ, ◌+◌, ◌*◌, ◌/◌, ◌%◌, List, [], map, filter, replicate}
use Rattle.std.specs.List.{range_with_len}
use Rattle.spin_base.specs.declared.chips.Spot.{Spot}
use Rattle.machine_desc.specs.Description.{Description}
use Rattle.machine_desc.specs.Live.{chip_of, is_usable}
use Rattle.tcam_find.specs.Memory.{empty_memory}
use Rattle.mesh_core.specs.State.{State}
use Rattle.mesh_core.specs.Opened.{empty_mesh}
use Rattle.app_loads.specs.Host.{Host}
use Rattle.app_loads.specs.Regions.{open_regions}

-- the cores 1 to 17 of all chips, in the order of the chips' indices and then of the cores
abbrev pub spot_of : Description → ℕ → Spot
spot_of m k = record { chip = chip_of m (k / 17); core = k % 17 + 1 }

abbrev pub grid_spots : Description → List Spot
grid_spots m = map (spot_of m) (range_with_len 0 (17 * (m.width * m.height)))

-- Each usable core has a vertex, in the order of x, then y, then core.
abbrev pub usable_spots : Description → List Spot
usable_spots m = filter (is_usable m) (grid_spots m)

-- A host without an application has the mesh of these vertices without a copy, tables of unused entries, and regions of which
-- nothing is taken.
abbrev pub bare_mesh : Description → ℕ → State
bare_mesh m capacity = empty_mesh (record { machine = m; spots = usable_spots m; tables = replicate (m.width * m.height) empty_memory; capacity = capacity })

abbrev pub bare_host : Description → ℕ → Host
bare_host m capacity = record { mesh = bare_mesh m capacity; regions = open_regions m; apps = []; packets = 0 }
