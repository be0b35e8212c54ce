use Rattle.mesh_run.proofs.Common.{AreUp, HoldNothing, List, McCopy, State, ap, arith, cut_queues, length, length-map, refl, subst, ℕ, ◌++◌, ◌+◌, ◌∙◌, ◌≡◌}
use Rattle.mesh_run.proofs.PlanLaws.{homes_fit, plan_shared}
use Rattle.mesh_run.proofs.splitting.SplitPlan.of.Goals as goal

pub returns : goal.returns
returns g c =
    let m = c.args.parts.now in
    let l = c.args.layout.now in
    let is = c.parts.view_is in
    let laid = c.requires.layout in
    let homes = l.homes.items in
    let shares = c.in_ok-shares.shares.items in
    let runs = l.runs.items in
    let places : c.len.result ≡ length homes = omega (arith, c.len.ensures) in
    let vertices = subst (λ (s : State). c.len-2.result ≡ length s.unsent) is (omega (arith, c.len-2.ensures)) in
    let nothing = subst (λ (r : List ℕ). HoldNothing r (length homes) (length m.unsent) shares) c.deref-3.ensures.value
    (subst (λ (n : ℕ). HoldNothing c.deref-3.result.now n (length m.unsent) shares) places
    (subst (λ (n : ℕ). HoldNothing c.deref-3.result.now c.len.result n shares) vertices c.in_ok-shares.ensures)) in
    let cap = subst (λ (s : State). c.capacity.result ≡ s.setup.capacity) is c.capacity.ensures in
    let queues = c.deref-2.ensures.value ∙ (c.in_ok-crossing.ensures ∙ ap (cut_queues (m.inputs ++ m.cores)) c.deref.ensures.value) in
    let up = c.in_ok-standing.ensures in
    let shared = plan_shared m.setup runs (length homes) (length m.unsent) shares nothing laid.homes.long c.requires.mesh.unsent_lists in
    record {
      shared = shared;
      nothing = nothing;
      ends = up.0;
      holds = up.1;
      up = subst (λ (n : ℕ). AreUp n (c.args.pace.turns + 1) (cut_queues (m.inputs ++ m.cores) l.cuts.items) up.0) cap
          (subst (λ (qs : List (List McCopy)). AreUp c.capacity.result (c.args.pace.turns + 1) qs up.0) queues up.2);
      crossing = ap length c.in_ok-crossing.ensures ∙ (length-map c.deref.result.now _ ∙ ap length c.deref.ensures.value);
      fits = homes_fit m m runs laid.table homes shares c.requires.mesh refl refl refl laid.numbers laid.homes shared;
    }
