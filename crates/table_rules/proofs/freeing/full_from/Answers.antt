-- One number more.
use Rattle.table_rules.proofs.Common.{arith}
use Rattle.table_rules.proofs.FreeRoutes.{next_below, next_full, next_passed}
use Rattle.table_rules.proofs.freeing.full_from.Goals as goal

pub loop-k-preserved : goal.loop-k-preserved
loop-k-preserved c = record {
  below = next_below c.args.bits.now c.args.routes c.loop-k.full c.loop-k.k c.min-full.result c.loop-k-test.true c.min-full.ensures c.loop-k.invariant.below;
  full = next_full c.args.bits.now c.args.routes c.loop-k.full c.loop-k.k c.min-full.result c.loop-k-test.true c.min-full.ensures (omega arith) c.loop-k.invariant.full;
  passed = next_passed c.args.bits.now c.args.routes c.loop-k.full c.loop-k.k c.min-full.result c.loop-k-test.true c.min-full.ensures c.loop-k.invariant.passed;
}
