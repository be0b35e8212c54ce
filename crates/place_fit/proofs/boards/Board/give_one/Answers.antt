use Rattle.place_fit.proofs.Common.{arith}
use Rattle.place_fit.proofs.Giving.{given}
use Rattle.place_fit.proofs.boards.Board.give_one.Goals as goal

pub returns-in-Some : goal.returns-in-Some
returns-in-Some c = grind (arith, given c.args.self.now c.free_core.new.self c.make_whole.new.self c.args.spot c.in-Some.place c.free_core.ensures c.in-Some.ensures.there c.make_whole.ensures)
