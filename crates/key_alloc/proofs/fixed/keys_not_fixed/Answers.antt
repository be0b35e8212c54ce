use Rattle.key_alloc.proofs.Common.{arith}
use Rattle.key_alloc.proofs.FixedBlocks.{have_fixed, sorted_fixed}
use Rattle.key_alloc.proofs.fixed.keys_not_fixed.Goals as goal

pub invariant_of-fixed : goal.invariant_of-fixed
invariant_of-fixed c = grind (arith, have_fixed c.args.graph.now c.requires, sorted_fixed)
