-- What a contract sees of the parts of a mesh.
use Rattle.mesh_core.specs.declared.parts.MeshParts.TheInside.{Inside}
use Rattle.mesh_core.specs.State.{State}

abbrev pub state_in : Inside → State
state_in s = record {
  setup = s.setup;
  unsent = s.unsent.items;
  inputs = s.inputs.items;
  hands = s.hands.items;
  cores = s.cores.items;
  delivered = s.delivered;
  dumped = s.dumped;
}
