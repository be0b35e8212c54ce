use Rattle.mesh_drain.proofs.Common.{Inject, after_event, arith, rules}
use Rattle.mesh_drain.proofs.{Frame.dropless, Frame.onward_none, Frame.onward_then, Frame.onward_unsent, Frame.reached_by, Frame.reached_then, Frame.sent_dropless, Turns.begins, Turns.begins_unsent}
use Rattle.mesh_drain.proofs.Turns.{ends_quiet, popped_smaller}
use Rattle.mesh_drain.proofs.draining.send_packet.Goals as goal

pub loop-next-init : goal.loop-next-init
loop-next-init c = record {
  onward = onward_none (after_event c.args.mesh.now (Inject c.args.vertex)) c.step.new.self c.in_ok-step.ensures.moves;
  under_way = begins c.args.mesh.now c.step.new.self c.args.vertex c.args.waiting.now.items c.push.new.self.items c.spots.result.now _
      c.requires.can.may.kept c.requires.can.may.quiet c.requires.can.exists c.requires.some c.in_ok-step.ensures.moves c.spots.ensures c.requires.can.none c.in_ok-push.ensures.items;
}

pub loop-next-preserved : goal.loop-next-preserved
loop-next-preserved c = grind (arith, onward_then)

pub loop-next-smaller : goal.loop-next-smaller
loop-next-smaller c = grind (arith, popped_smaller)

pub returns-clause-reached : goal.returns-clause-reached
returns-clause-reached c = sent_dropless c.args.mesh.now c.loop-next.mesh c.args.vertex c.loop-next.invariant.onward

pub returns-clause-quiet : goal.returns-clause-quiet
returns-clause-quiet c = ends_quiet c.loop-next.mesh c.loop-next.waiting.items c.loop-next.invariant.under_way (search rules)

pub returns-clause-unsent : goal.returns-clause-unsent
returns-clause-unsent c = grind (arith, onward_unsent (after_event c.args.mesh.now (Inject c.args.vertex)) c.loop-next.mesh c.loop-next.invariant.onward, begins_unsent)

pub returns-in_err-push-clause-reached : goal.returns-in_err-push-clause-reached
returns-in_err-push-clause-reached c = reached_by c.args.mesh.now c.step.new.self (Inject c.args.vertex) tt c.in_ok-step.ensures.moves

pub returns-in_err-go_on-clause-reached : goal.returns-in_err-go_on-clause-reached
returns-in_err-go_on-clause-reached c = reached_then _ _ _ (sent_dropless _ _ _ c.loop-next.invariant.onward) (dropless _ _ c.go_on.ensures.reached)
