-- What a contract sees of what a mesh never changes, and what its table of vertices keeps.
use Rattle.std.specs.Prelude.{◌≢◌, ◌≤◌, All, AllPairs}
use Rattle.machine_desc.specs.Live.{IsSite}
use Rattle.mesh_core.specs.declared.setups.MeshSetup.TheInside.{Inside}
use Rattle.mesh_core.specs.State.{Setup}
use Rattle.mesh_core.specs.VertexTable.{TellsVertices}

abbrev pub setup_seen : Inside → Setup
setup_seen u = record { machine = u.machine; spots = u.spots; tables = u.tables; capacity = u.capacity }

-- The vertices are on different sites, the table tells them, and a queue has room for at least one copy.
pub record IsSetupTabled (u : Inside) : Type 0 where
  pub different : AllPairs (λ a b. a ≢ b) u.spots
  pub sites : All (IsSite u.machine) u.spots
  pub vertices : TellsVertices u.machine u.spots u.vertices.items
  pub room : 1 ≤ u.capacity
