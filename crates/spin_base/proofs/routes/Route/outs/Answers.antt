use Rattle.std.proofs.Common.{rules, ◌++◌, ap, arith}
use Rattle.spin_base.specs.Outputs.{all_outs}
use Rattle.spin_base.proofs.{Once.outs_once, Outputs.all_found, Outputs.less_fits, Outputs.less_is_less, Outputs.lowest_below, Outputs.one_more, Outputs.outs_in, Outputs.room_left}
use Rattle.spin_base.proofs.routes.Route.outs.Goals as goal

pub of_bit-requires : goal.of_bit-requires
of_bit-requires c = lowest_below c.loop-left.left c.loop-left.invariant.fits c.loop-left-test.true

pub push-requires : goal.push-requires
push-requires c = search (rules, room_left)

pub loop-left-smaller : goal.loop-left-smaller
loop-left-smaller c = less_is_less c.loop-left.left c.loop-left.invariant.fits c.loop-left-test.true

pub loop-left-preserved : goal.loop-left-preserved
loop-left-preserved c = grind (arith, one_more, less_fits)

pub loop-left-init : goal.loop-left-init
loop-left-init c = record { found = ap (λ l. l ++ outs_in c.args.self.bits all_outs) c.new-outs.ensures; fits = c.args.self.within }

pub returns-clause-all : goal.returns-clause-all
returns-clause-all c = all_found c.args.self c.loop-left.outs.items c.loop-left.left c.loop-left.invariant.found c.loop-left-test.false

pub returns-clause-once : goal.returns-clause-once
returns-clause-once c = λ o valid. rw (returns-clause-all c) (outs_once c.args.self o valid)
