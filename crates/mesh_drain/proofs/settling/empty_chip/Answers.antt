use Rattle.mesh_drain.proofs.Common.{arith, refl}
use Rattle.mesh_drain.proofs.{Moving.after_none, Moving.after_then, Moving.after_setup, Vertices.drops_none, Vertices.drops_then}
use Rattle.mesh_drain.proofs.settling.empty_chip.Goals as goal

pub events-init : goal.events-init
events-init c = record { after = after_none c.args.mesh.now; links = λ collected. drops_none c.args.mesh.now c.args.mesh.now refl; collected = λ collected. collected }

pub events-preserved : goal.events-preserved
events-preserved c = record {
  after = after_then c.args.mesh.now c.events.mesh c.move_on.new.mesh c.events.invariant.after c.move_on.ensures.after;
  links = λ collected. drops_then c.args.mesh.now c.events.mesh c.move_on.new.mesh (after_setup c.args.mesh.now c.events.mesh c.events.invariant.after)
      (c.events.invariant.links collected) (c.move_on.ensures.links (c.events.invariant.collected collected));
  collected = λ collected. c.in_ok-move_on.ensures.collected (c.events.invariant.collected collected);
}

pub returns-in_err-move_on-clause-after : goal.returns-in_err-move_on-clause-after
returns-in_err-move_on-clause-after c = after_then c.args.mesh.now c.events.mesh c.move_on.new.mesh c.events.invariant.after c.move_on.ensures.after

pub returns-in_err-move_on-clause-links : goal.returns-in_err-move_on-clause-links
returns-in_err-move_on-clause-links c = grind (arith, after_setup c.args.mesh.now c.events.mesh c.events.invariant.after, drops_then)
