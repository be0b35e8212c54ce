use Rattle.mesh_drain.proofs.Common.{AreCollected, DropsAtNoVertex, Dump, OnOk, Send, State, ap, arith, dumped_stays, is_some, step_of, subst, sym, true, weight_in, ◌<◌, ◌∙◌, ◌≡◌}
use Rattle.mesh_drain.proofs.{Frame.dumped_reached, Moving.after_one, Moving.after_then, Moving.after_lighter, Moving.after_reached, Moving.always, Moving.lighter, Moving.moved_enabled}
use Rattle.mesh_drain.proofs.{Moving.dump_enabled, Moving.idle_stays, Moving.mesh_after, Turns.on_ok, Vertices.drops_none, Vertices.served_collected}
use Rattle.mesh_drain.proofs.settling.serve.Goals as goal

pub returns-in-Moved-clause-after : goal.returns-in-Moved-clause-after
returns-in-Moved-clause-after c =
    after_then c.args.mesh.now c.step.new.self c.collect_behind.new.mesh
    (after_one c.args.mesh.now c.step.new.self (Send c.args.chip c.args.out) c.in_ok-step.ensures.moves)
    (after_reached c.step.new.self c.collect_behind.new.mesh c.collect_behind.ensures.reached)

pub returns-in-Moved-clause-lighter : goal.returns-in-Moved-clause-lighter
returns-in-Moved-clause-lighter c = λ waits.
    let mesh = mesh_after c.args.mesh.now c.step.new.self c.every_mesh_is_one.ensures (after_one c.args.mesh.now c.step.new.self (Send c.args.chip c.args.out) c.in_ok-step.ensures.moves) in
    let sent = lighter c.args.mesh.now c.step.new.self (Send c.args.chip c.args.out) c.every_mesh_is_one.ensures
    (moved_enabled c.args.mesh.now (Send c.args.chip c.args.out) (sym c.in_ok-step.ensures.answer ∙ c.in-Moved.is)) c.in_ok-step.ensures.moves in
    let rest = after_lighter c.step.new.self c.collect_behind.new.mesh mesh (after_reached c.step.new.self c.collect_behind.new.mesh c.collect_behind.ensures.reached) in
    always c.collect_behind.result (omega (arith, sent, rest))

pub returns-in-Moved-clause-links : goal.returns-in-Moved-clause-links
returns-in-Moved-clause-links c = λ collected.
    drops_none c.args.mesh.now c.collect_behind.new.mesh
    (dumped_reached c.step.new.self c.collect_behind.new.mesh c.collect_behind.ensures.reached
    ∙ (ap (λ (s : State). s.dumped) c.in_ok-step.ensures.moves ∙ dumped_stays c.args.mesh.now (Send c.args.chip c.args.out) tt))

pub returns-in-Moved-clause-collected : goal.returns-in-Moved-clause-collected
returns-in-Moved-clause-collected c = grind (arith, on_ok, served_collected)

pub returns-in-Idle-clause-lighter : goal.returns-in-Idle-clause-lighter
returns-in-Idle-clause-lighter c = λ waits.
    let idle = sym c.in_ok-step.ensures.answer ∙ c.in-Idle.is in
    let stays : c.step.new.self ≡ c.args.mesh.now = c.in_ok-step.ensures.moves ∙ idle_stays c.args.mesh.now (Send c.args.chip c.args.out) idle in
    subst (λ (s : State). (is_some (step_of s (Dump c.args.chip c.args.out)) ≡ true → OnOk c.take_event.result (weight_in c.take_event.new.mesh < weight_in s)))
    stays c.take_event.ensures.lighter (dump_enabled c.args.mesh.now c.args.chip c.args.out c.every_mesh_is_one.ensures waits idle)

pub returns-in-Idle-clause-links : goal.returns-in-Idle-clause-links
returns-in-Idle-clause-links c = λ collected.
    let idle = sym c.in_ok-step.ensures.answer ∙ c.in-Idle.is in
    let stays : c.step.new.self ≡ c.args.mesh.now = c.in_ok-step.ensures.moves ∙ idle_stays c.args.mesh.now (Send c.args.chip c.args.out) idle in
    subst (λ (s : State). (AreCollected s → DropsAtNoVertex s c.take_event.new.mesh)) stays (c.take_event.ensures.links tt) collected

pub returns-in-Idle-clause-collected : goal.returns-in-Idle-clause-collected
returns-in-Idle-clause-collected c = grind (arith, idle_stays)
