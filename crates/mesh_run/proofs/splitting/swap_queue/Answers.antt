use Rattle.mesh_run.proofs.Common.{State, ap, arith, length, set, subst, ℕ, ◌-◌, ◌<◌, ◌∙◌, ◌≡◌, ◌≤◌}
use Rattle.mesh_run.proofs.SplitLaws.{sets_core, sets_input}
use Rattle.mesh_run.proofs.splitting.swap_queue.Goals as goal

pub returns-then-place-ports-clause-stands : goal.returns-then-place-ports-clause-stands
returns-then-place-ports-clause-stands c =
    let is = c.parts.view_is in
    sets_input c.args.parts.now _ c.args.place c.args.queue (subst (λ (s : State). c.args.place < length s.inputs) is (omega (arith, c.len-ports.ensures, c.if-place-ports.true)))
    (ap (λ q. set c.parts.inside.inputs.items c.args.place q) c.replace.ensures.after ∙ ap (λ (s : State). set s.inputs c.args.place c.args.queue) is)
    (ap (λ (s : State). s.cores) is) (ap (λ (s : State). s.unsent) is) (ap (λ (s : State). s.setup) is) (ap (λ (s : State). s.hands) is) (ap (λ (s : State). s.delivered) is)
    (ap (λ (s : State). s.dumped) is)

pub returns-else-place-ports-clause-stands : goal.returns-else-place-ports-clause-stands
returns-else-place-ports-clause-stands c =
    let is = c.parts.view_is in
    let ports : c.len-ports.result ≡ length c.parts.inside.inputs.items = omega (arith, c.len-ports.ensures) in
    sets_core c.args.parts.now _ c.args.place c.args.queue (subst (λ (s : State). length s.inputs ≤ c.args.place) is (omega (arith, c.len-ports.ensures, c.if-place-ports.false)))
    (ap (λ q. set c.parts.inside.cores.items (c.args.place - c.len-ports.result) q) c.replace-else-place-ports.ensures.after
    ∙ (ap (λ (k : ℕ). set c.parts.inside.cores.items (c.args.place - k) c.args.queue) ports ∙ ap (λ (s : State). set s.cores (c.args.place - length s.inputs) c.args.queue) is))
    (ap (λ (s : State). s.inputs) is) (ap (λ (s : State). s.unsent) is) (ap (λ (s : State). s.setup) is) (ap (λ (s : State). s.hands) is) (ap (λ (s : State). s.delivered) is)
    (ap (λ (s : State). s.dumped) is)
