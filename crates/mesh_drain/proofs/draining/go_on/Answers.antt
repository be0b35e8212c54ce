use Rattle.mesh_drain.proofs.Common.{IsServing, Take, arith, drop, drop_all, subst, ◌+◌}
use Rattle.mesh_drain.proofs.{Frame.onward_by, Frame.onward_then, Packets.serving_done, Turns.taken_serving, Turns.taken_less, Turns.outs_left}
use Rattle.mesh_drain.proofs.draining.go_on.Goals as goal

pub loop-out-init : goal.loop-out-init
loop-out-init c = record {
  reached = onward_by c.args.mesh.now c.step.new.self (Take c.args.at.chip c.args.at.port) tt c.in_ok-step.ensures.moves;
  serving = taken_serving c.args.mesh.now c.step.new.self c.args.waiting.now.items c.args.at c.in_ok-outs.outs.items c.as_slice-out-items.result.now
      c.in_ok-step.ensures.moves c.requires c.in_ok-outs.ensures c.as_slice-out-items.ensures.value;
  less = taken_less c.args.mesh.now c.step.new.self c.args.waiting.now.items c.args.waiting.now.items c.args.at c.in_ok-step.ensures.moves c.requires;
}

pub serve-requires : goal.serve-requires
serve-requires c =
    let os = c.as_slice-out-items.result.now in
    let i = c.loop-out.out-index in (
      drop (i + 1) os,
      subst (IsServing c.loop-out.mesh c.loop-out.waiting.items c.args.at.chip) (outs_left os i _ c.loop-out-test.true) c.loop-out.invariant.serving,
    )

pub loop-out-preserved : goal.loop-out-preserved
loop-out-preserved c =
    let os = c.as_slice-out-items.result.now in
    let i = c.loop-out.out-index in
    let then' = c.in_ok-serve.ensures.served (drop (i + 1) os)
    (subst (IsServing c.loop-out.mesh c.loop-out.waiting.items c.args.at.chip) (outs_left os i _ c.loop-out-test.true) c.loop-out.invariant.serving) in
    record {
      reached = onward_then c.args.mesh.now c.loop-out.mesh c.serve.new.mesh c.loop-out.invariant.reached c.serve.ensures.reached;
      serving = then'.0;
      less = let now = then'.1 in let before = c.loop-out.invariant.less in omega (arith, now, before);
    }

pub returns-clause-under_way : goal.returns-clause-under_way
returns-clause-under_way c =
    serving_done c.loop-out.mesh c.loop-out.waiting.items c.args.at.chip
    (subst (IsServing c.loop-out.mesh c.loop-out.waiting.items c.args.at.chip) (drop_all c.loop-out.out-index c.as_slice-out-items.result.now c.loop-out-test.false) c.loop-out.invariant.serving)

pub returns-in_err-outs-clause-reached : goal.returns-in_err-outs-clause-reached
returns-in_err-outs-clause-reached c = onward_by c.args.mesh.now c.step.new.self (Take c.args.at.chip c.args.at.port) tt c.in_ok-step.ensures.moves

pub returns-in_err-serve-clause-reached : goal.returns-in_err-serve-clause-reached
returns-in_err-serve-clause-reached c = onward_then c.args.mesh.now c.loop-out.mesh c.serve.new.mesh c.loop-out.invariant.reached c.serve.ensures.reached
