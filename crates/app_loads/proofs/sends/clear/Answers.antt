use Rattle.app_loads.proofs.Common.{arith}
use Rattle.app_loads.proofs.Resting.{emptied_beside, emptied_more}
use Rattle.app_loads.proofs.sends.clear.Goals as goal

pub loop-source-preserved : goal.loop-source-preserved
loop-source-preserved c = record {
  beside = emptied_beside _ _ _ c.requires c.loop-source.invariant.beside _ _ c.loop-source-test.true _ c.new.ensures;
  empty = grind (arith, emptied_more);
}
