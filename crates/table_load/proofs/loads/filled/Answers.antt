use Rattle.std.proofs.Common.{◌∙◌, arith}
use Rattle.table_load.proofs.Filling.{rows_more, rows_loaded}
use Rattle.table_load.proofs.loads.filled.Goals as goal

pub loop-at-init : goal.loop-at-init
loop-at-init c = grind arith

pub set-requires : goal.set-requires
set-requires c = omega (arith, c.loop-at-test.true, c.loop-at.invariant.room)

pub loop-at-preserved : goal.loop-at-preserved
loop-at-preserved c = record {
  entries = rows_more c.args.rows.now c.loop-at.at c.index-rows-at.result _ _ c.requires c.loop-at-test.true c.index-rows-at.is c.loop-at.invariant.entries c.set.ensures.one;
  room = c.set.ensures.room ∙ c.loop-at.invariant.room;
}

pub returns : goal.returns
returns c = grind (arith, rows_loaded)
