use Rattle.mesh_drain.proofs.Common.{Local, Some, [], dir_at, queue_at, slice_get, ℕ, ◌<◌, ◌≡◌}
use Rattle.spin_base.specs.declared.chips.Port.TheVariants.{Link}
use Rattle.mesh_drain.proofs.waiting.full_port_of.Given as goal

-- nothing waits from the chip's own cores, nor at the links of lower numbers
abbrev pub invariant-loop-number : goal.invariant-loop-number
invariant-loop-number l = record {
  cores : slice_get l.router.mesh.now.inputs (queue_at l.router.mesh.now.setup.machine l.router.chip Local) ≡ Some [];
  links : (n : ℕ) → n < l.number → slice_get l.router.mesh.now.inputs (queue_at l.router.mesh.now.setup.machine l.router.chip (Link (dir_at n))) ≡ Some [];
}
