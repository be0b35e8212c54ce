use Rattle.std.proofs.Common.{rules}
use Rattle.place_fit.proofs.Common.{AreFreeOn, subst, sym}
use Rattle.place_fit.proofs.Giving.{free_with, kept_same, whole_again}
use Rattle.place_fit.proofs.free_cores.FreeCores.give.Goals as goal

pub invariant_of-self : goal.invariant_of-self
invariant_of-self c = search (rules, whole_again, kept_same)

pub returns : goal.returns
returns c m n free more = free_with c.args.spots.now m n c.self.inside.board c.give.new.self (subst (AreFreeOn m) (sym c.self.view_is) free) more c.give.ensures
