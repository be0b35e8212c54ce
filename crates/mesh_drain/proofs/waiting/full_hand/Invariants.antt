use Rattle.mesh_drain.proofs.Common.{None, Some, chip_of, index_of, slice_get, ℕ, ◌<◌, ◌≡◌}
use Rattle.mesh_drain.proofs.waiting.full_hand.Given as goal

-- the hands of the chips before this one are free
abbrev pub invariant-loop-index : goal.invariant-loop-index
invariant-loop-index l = (i : ℕ) → i < l.index → slice_get l.mesh.hands (index_of l.mesh.setup.machine (chip_of l.mesh.setup.machine i)) ≡ Some None
