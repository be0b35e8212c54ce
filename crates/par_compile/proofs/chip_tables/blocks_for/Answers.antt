use Rattle.par_compile.proofs.Common.{arith, length}
use Rattle.par_compile.proofs.{Left.blocks_all, Left.blocks_turning, Righted.coverable}
use Rattle.par_compile.proofs.chip_tables.blocks_for.Goals as goal

pub returns-in_ok-turning-clause-blocks : goal.returns-in_ok-turning-clause-blocks
returns-in_ok-turning-clause-blocks c = blocks_turning _ _ _ _ (omega (arith, c.if-len-request.true, c.len.ensures)) c.requires.routed c.in_ok-turning.ensures.blocks

pub returns-in_ok-turning-clause-coverable : goal.returns-in_ok-turning-clause-coverable
returns-in_ok-turning-clause-coverable c = grind (arith, coverable c.in_ok-turning.turning (length c.args.nets.now) c.requires.few c.in_ok-turning.ensures.few c.in_ok-turning.ensures.apart)

pub returns-in_ok-all-clause-blocks : goal.returns-in_ok-all-clause-blocks
returns-in_ok-all-clause-blocks c = grind (arith, blocks_all c.args.request.now.machine.now c.args.nets.now c.args.request.now.target c.in_ok-all.all c.in_ok-all.ensures.blocks)

pub returns-in_ok-all-clause-coverable : goal.returns-in_ok-all-clause-coverable
returns-in_ok-all-clause-coverable c = grind (arith, coverable c.in_ok-all.all (length c.args.nets.now) c.requires.few c.in_ok-all.ensures.few c.in_ok-all.ensures.apart)
