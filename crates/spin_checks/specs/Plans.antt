-- The trees and the image of a plan that the compiler makes (this project's own).
use Rattle.std.specs.Prelude.{◌≡◌, ℕ, List, Some, map, slice_get}
use Rattle.machine_desc.specs.declared.trees.Edge.{Edge}
use Rattle.machine_desc.specs.Description.{Description}
use Rattle.machine_desc.specs.declared.nets.NetPlan.{NetPlan}
use Rattle.default_routes.specs.declared.stripping.Final.{Final}
use Rattle.table_load.specs.declared.tables.Image.{Image}
use Rattle.table_load.specs.Memories.{rows_of_index}
use Rattle.spin_checks.specs.Findings.{IsOfGrid}

-- the edges of each net's tree
abbrev pub trees_of : List NetPlan → List (List Edge)
trees_of nets = map (λ (net : NetPlan). net.tree.edges) nets

-- The image is of the machine's grid, and has for each chip, by its index, the entries of the chip's final table.
pub record HasKeptRows (m : Description) (finals : List Final) (v : Image) : Type 0 where
  pub grid : IsOfGrid m v
  pub rows : (i : ℕ) (f : Final) → slice_get finals i ≡ Some f → rows_of_index v.height v.chips i ≡ f.entries
