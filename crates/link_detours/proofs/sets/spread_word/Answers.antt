use Rattle.link_detours.proofs.Common.{arith, below_six, dir_number, ◌<◌}
use Rattle.link_detours.proofs.{Searching.dir_number_at, Spreading.SpreadTo-more}
use Rattle.link_detours.proofs.sets.spread_word.Goals as goal

pub loop-d-preserved : goal.loop-d-preserved
loop-d-preserved c = SpreadTo-more _ _ _ _ _ _ _ (dir_number_at _ _ c.loop-d-test.true) c.leading-word.ensures c.loop-d.invariant

pub returns-clause-new : goal.returns-clause-new
returns-clause-new c = λ y d inside leads.
    c.loop-d.invariant.new y d inside (let six : dir_number d < 6 = below_six d in omega arith) leads
