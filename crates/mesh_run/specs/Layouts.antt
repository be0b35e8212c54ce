-- How a mesh of a setup is shared between workers (this project's own).
use Rattle.std.specs.Prelude.{ℕ, ◌*◌, List}
use Rattle.mesh_core.specs.State.{Setup}
use Rattle.mesh_run.specs.declared.layout.Layout.{Layout}
use Rattle.mesh_run.specs.Floors.{IsFloorOf, grid_size}
use Rattle.mesh_run.specs.Homes.{AreCutsOf, AreHomesOf, AreShareRuns, IsShareTable}

-- The actors stand in runs on the floor of the setup. Each queue has its homes in these, and the cuts are those between two.
pub record IsLayoutOf (u : Setup) (l : Layout) : Type 0 where
  pub floor : IsFloorOf u l.floor
  pub table : List ℕ
  pub runs : AreShareRuns (2 * grid_size u) l.runs.items
  pub numbers : IsShareTable (2 * grid_size u) l.runs.items table
  pub homes : AreHomesOf u table l.homes.items
  pub cuts : AreCutsOf l.homes.items l.cuts.items
