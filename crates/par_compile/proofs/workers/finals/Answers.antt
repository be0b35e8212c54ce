use Rattle.par_compile.proofs.Common.{AllZip-long, IfOk-weaker, IsStillPlain, arith}
use Rattle.par_compile.proofs.Working.{all_beside}
use Rattle.par_compile.proofs.workers.finals.Goals as goal

pub cover_all-requires-after_bounds : goal.cover_all-requires-after_bounds
cover_all-requires-after_bounds g c κs within = grind (arith, AllZip-long IsStillPlain c.args.blocks c.in_ok-works.works.items c.in_ok-works.ensures)

pub returns-clause-finals : goal.returns-clause-finals
returns-clause-finals g c = grind (arith, IfOk-weaker, all_beside)

pub returns-clause-all : goal.returns-clause-all
returns-clause-all g c = grind (arith, AllZip-long IsStillPlain c.args.blocks c.in_ok-works.works.items c.in_ok-works.ensures, IfOk-weaker)
