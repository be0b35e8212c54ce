use Rattle.mesh_drain.proofs.Common.{AreCollected, IsAfter, State, ap, arith, subst, sym}
use Rattle.mesh_drain.proofs.{Moving.after_none, Moving.after_one, Moving.lighter, Vertices.drops_none, Vertices.event_leads_on, Vertices.event_collected}
use Rattle.mesh_drain.proofs.settling.take_event.Goals as goal

pub returns-clause-after : goal.returns-clause-after
returns-clause-after c = after_one c.args.mesh.now c.step.new.self c.args.e c.in_ok-step.ensures.moves

pub returns-clause-lighter : goal.returns-clause-lighter
returns-clause-lighter c = λ enabled. lighter c.args.mesh.now c.step.new.self c.args.e c.every_mesh_is_one.ensures enabled c.in_ok-step.ensures.moves

pub returns-clause-links : goal.returns-clause-links
returns-clause-links c = grind (arith, event_leads_on)

pub returns-clause-collected : goal.returns-clause-collected
returns-clause-collected c = λ none collected. subst AreCollected (sym c.in_ok-step.ensures.moves) (event_collected c.args.mesh.now c.args.e collected none)

pub returns-in_err-step-clause-after : goal.returns-in_err-step-clause-after
returns-in_err-step-clause-after c = subst (IsAfter c.args.mesh.now) (sym c.in_err-step.ensures.err) (after_none c.args.mesh.now)

pub returns-in_err-step-clause-links : goal.returns-in_err-step-clause-links
returns-in_err-step-clause-links c = λ none collected. drops_none c.args.mesh.now c.step.new.self (ap (λ (s : State). s.dumped) c.in_err-step.ensures.err)
