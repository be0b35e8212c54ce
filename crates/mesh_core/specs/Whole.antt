-- What a contract sees of a mesh, which is one always.
use Rattle.mesh_core.specs.declared.meshes.Mesh.TheInside.{Inside}
use Rattle.mesh_core.specs.State.{State, IsMesh}

abbrev pub state_of : Inside → State
state_of s = record {
  setup = s.setup;
  unsent = s.unsent.items;
  inputs = s.inputs.items;
  hands = s.hands.items;
  cores = s.cores.items;
  delivered = s.delivered;
  dumped = s.dumped;
}

abbrev pub IsWholeMesh : Inside → Type 0
IsWholeMesh s = IsMesh (state_of s)
