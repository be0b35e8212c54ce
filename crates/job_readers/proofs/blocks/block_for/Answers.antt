use Rattle.job_readers.proofs.Common.{arith, common_steps, ◌-◌}
use Rattle.job_readers.proofs.BlockSteps.{fixed_for}
use Rattle.job_readers.proofs.blocks.block_for.Goals as goal

pub returns-clause-fixed : goal.returns-clause-fixed
returns-clause-fixed c = grind (arith, common_steps, fixed_for c.args.keys c.args.mask (omega arith) (grind (arith, common_steps)) (omega arith))
