use Rattle.place_fit.proofs.Common.{AreSettled, subst, sym, take, take_more, ◌∙◌}
use Rattle.place_fit.proofs.Giving.{settled_more}
use Rattle.place_fit.proofs.boards.Board.settle.Goals as goal

pub loop-spot-preserved : goal.loop-spot-preserved
loop-spot-preserved c = record {
  settled = subst (λ l. AreSettled l c.args.self.now c.settle_one.new.self) (sym (take_more c.args.spots.now c.loop-spot.spot-index _ c.loop-spot-test.true))
      (settled_more (take c.loop-spot.spot-index c.args.spots.now) _ c.args.self.now c.loop-spot.self c.settle_one.new.self c.loop-spot.invariant.settled c.settle_one.ensures.settled);
  same = c.settle_one.ensures.same ∙ c.loop-spot.invariant.same;
}
