use Rattle.spin_jobs.proofs.Common.{HasPasses, JobWithPlan, ap, arith, opened_of, subst, sym, ℕ, ◌∙◌}
use Rattle.spin_jobs.proofs.Opening.{opened_keeps}
use Rattle.spin_jobs.proofs.runs.reinject_job.Goals as goal

pub reinject-requires-clause-no_hand : goal.reinject-requires-clause-no_hand
reinject-requires-clause-no_hand g c κs within = c.in_ok-mesh.ensures.ready.no_hand

pub reinject-requires-clause-ledger : goal.reinject-requires-clause-ledger
reinject-requires-clause-ledger g c κs within = grind (arith, opened_keeps (c.planned.inside.job.now) (c.planned.inside.plan.now) c.planned.invariant.run c.planned.invariant.planned)

pub returns-in-Ok : goal.returns-in-Ok
returns-in-Ok g c =
    rw (← c.planned.view_is)
    let job = c.planned.inside.job.now in
    let plan = c.planned.inside.plan.now in
    let opened = c.in_ok-mesh.ensures.opened ∙ ap (λ (p : JobWithPlan). opened_of p.job p.plan) (sym c.planned.view_is) in
    let patience = c.pace_of.ensures.patience ∙ ap (λ (p : JobWithPlan). p.job.run.patience) (sym c.planned.view_is) in
    let turns = c.pace_of.ensures.turns ∙ ap (λ (p : JobWithPlan). p.job.run.turns) (sym c.planned.view_is) in
    let led = subst (λ (n : ℕ). HasPasses n job.run.turns c.in_ok-mesh.mesh c.in-Ok.mesh) patience
    (subst (λ (n : ℕ). HasPasses c.pace_of.result.patience n c.in_ok-mesh.mesh c.in-Ok.mesh) turns c.in-Ok.ensures.passes)
    in
    let is = c.passes_of_a_job.ensures job plan c.in_ok-mesh.mesh c.in-Ok.mesh c.planned.invariant.run c.planned.invariant.planned c.in_ok-mesh.ensures.ready.mesh opened led in
    record { reached = is.0; kept = is.1; at_rest = c.in-Ok.ensures.at_rest; no_record = c.in-Ok.ensures.no_record }
