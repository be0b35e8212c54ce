use Rattle.machine_desc.proofs.Common.{None, Some, arith, cond-true, sym, ◌-◌}
use Rattle.machine_desc.proofs.Axis.{stepped_ahead_inside, stepped_back_first}
use Rattle.machine_desc.proofs.steps.Step.from.Goals as goal

pub returns-in-Ahead : goal.returns-in-Ahead
returns-in-Ahead c = rw c.in-Ahead.is (sym (stepped_ahead_inside c.args.wrap c.args.n c.args.places c.if-n-places.true))

pub returns-then-wrap-2 : goal.returns-then-wrap-2
returns-then-wrap-2 c = grind (arith, stepped_back_first c.args.wrap c.args.n c.args.places c.requires.inside (omega arith), cond-true c.args.wrap (Some (c.args.places - 1)) None c.if-wrap-2.true)
