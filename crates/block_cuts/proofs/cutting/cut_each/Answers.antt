-- One piece more.
use Rattle.block_cuts.proofs.Turns.{left_more}
use Rattle.block_cuts.proofs.cutting.cut_each.Goals as goal

pub loop-piece-preserved : goal.loop-piece-preserved
loop-piece-preserved c = left_more _ _ _ _ _ _ c.loop-piece-test.true c.piece-item.is c.loop-piece.invariant c.in_ok-put_apart.ensures
