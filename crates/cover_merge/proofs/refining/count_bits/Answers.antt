-- The lowest bit is counted and goes.
use Rattle.cover_merge.proofs.Common.{arith, get_or, length-set, rules}
use Rattle.cover_merge.proofs.BitCounts.{count_fits, fewer_bits, one_counted}
use Rattle.cover_merge.proofs.refining.count_bits.Goals as goal

pub overflow_add-counts : goal.overflow_add-counts
overflow_add-counts c = search (rules, count_fits)

pub loop-left-smaller : goal.loop-left-smaller
loop-left-smaller c = search (rules, fewer_bits)

pub loop-left-preserved : goal.loop-left-preserved
loop-left-preserved c = grind (arith, length-set, get_or, one_counted)
