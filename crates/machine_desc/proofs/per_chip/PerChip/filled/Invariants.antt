-- So far the item stands as often as it was put in.
use Rattle.machine_desc.proofs.Common.{replicate, ◌≡◌}
use Rattle.machine_desc.proofs.per_chip.PerChip.filled.Given as goal

abbrev pub invariant-loop : goal.invariant-loop
invariant-loop g l = l.items.items ≡ replicate l.counter l.fn.item
