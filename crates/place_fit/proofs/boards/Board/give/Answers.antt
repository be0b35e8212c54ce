use Rattle.place_fit.proofs.Common.{AreGiven, subst, sym, take, take_more}
use Rattle.place_fit.proofs.Giving.{given_more}
use Rattle.place_fit.proofs.boards.Board.give.Goals as goal

pub loop-spot-preserved : goal.loop-spot-preserved
loop-spot-preserved c =
    subst (λ l. AreGiven l c.args.self.now c.give_one.new.self) (sym (take_more c.args.spots.now c.loop-spot.spot-index _ c.loop-spot-test.true))
    (given_more (take c.loop-spot.spot-index c.args.spots.now) _ c.args.self.now c.loop-spot.self c.give_one.new.self c.loop-spot.invariant c.give_one.ensures)
