use Rattle.mesh_drain.proofs.Common.{Port, Some, [], chip_of, queue_at, slice_get, ℕ, ◌<◌, ◌≡◌}
use Rattle.mesh_drain.proofs.waiting.full_port.Given as goal

-- nothing waits at the ports of the chips before this one
abbrev pub invariant-loop-index : goal.invariant-loop-index
invariant-loop-index l = (i : ℕ) → i < l.index → (port : Port) → slice_get l.mesh.inputs (queue_at l.mesh.setup.machine (chip_of l.mesh.setup.machine i) port) ≡ Some []
