use Rattle.job_readers.proofs.Common.{arith}
use Rattle.job_readers.proofs.RangeSteps.{no_ranges}
use Rattle.job_readers.proofs.fixed_blocks.FixedBlocks.new.Goals as goal

pub invariant_of-result : goal.invariant_of-result
invariant_of-result c = grind (arith, no_ranges)
