use Rattle.net_tables.proofs.Common.{arith}
use Rattle.net_tables.proofs.Whole.{all_few_marks, all_apart, all_routed}
use Rattle.net_tables.proofs.gather.original_blocks.Goals as goal

pub invariant_of-plans : goal.invariant_of-plans
invariant_of-plans c = record { routed = ∣ rw c.as_slice.ensures (all_routed c.args.machine.now c.args.nets.now c.requires) ∣₁ }

pub returns-clause-few : goal.returns-clause-few
returns-clause-few c = grind (arith, all_few_marks c.args.machine.now c.args.nets.now c.in_ok-lists.lists.items c.requires (rw c.as_slice.ensures at c.in_ok-lists.ensures))

pub returns-clause-apart : goal.returns-clause-apart
returns-clause-apart c =
    rw c.from_vec.ensures (all_apart c.args.machine.now c.args.nets.now c.in_ok-lists.lists.items c.requires (rw c.as_slice.ensures at c.in_ok-lists.ensures))
