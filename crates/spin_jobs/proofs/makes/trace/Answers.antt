use Rattle.spin_jobs.proofs.Common.{Event, IsMesh, IsTraced, IsValidWithPlan, JobWithPlan, List, MeetsJobLedger, Reports, State, TellsRun, WordOutput, after_events, answers_of, ap, opened_of}
use Rattle.spin_jobs.proofs.Common.{parts_with, subst, sym, take, ◌∙◌}
use Rattle.spin_jobs.proofs.{AtRest.reports, Tracing.traced_ledger, WordLaws.ok_weaker}
use Rattle.spin_jobs.proofs.makes.trace.Goals as goal

pub reported-requires : goal.reported-requires
reported-requires c = record { setup = c.in_ok-did.ensures.setup ∙ ap (λ (s : State). s.setup) c.in_ok-mesh.ensures.opened }

pub returns : goal.returns
returns c =
    let job = c.args.planned.now.job in
    let plan = c.args.planned.now.plan in
    let valid = subst (λ (p : JobWithPlan). IsValidWithPlan p.job p.plan) c.planned.view_is c.planned.invariant in
    let before = c.in_ok-mesh.mesh in
    let mesh = c.take_events.new.mesh in
    let did = c.in_ok-did.did in
    let opened = c.in_ok-mesh.ensures.opened in
    let events = c.as_slice.ensures ∙ ap (λ (p : JobWithPlan). p.job.run.events) c.planned.view_is in
    let is_mesh : IsMesh (opened_of job plan) = subst IsMesh opened c.in_ok-mesh.ensures.ready.mesh in
    let ledger : (es : List Event) → MeetsJobLedger (after_events (opened_of job plan) es) plan.nets job.run.packets =
    traced_ledger job plan valid.run valid.planned is_mesh
    in
    let reached = c.in_ok-did.ensures.mesh ∙ (ap (after_events before) events ∙ ap (λ (s : State). after_events s job.run.events) opened) in
    let answered = c.in_ok-did.ensures.did ∙ (ap (answers_of before) events ∙ ap (λ (s : State). answers_of s job.run.events) opened) in
    ok_weaker c.reported.result (λ (t : WordOutput). TellsRun job plan mesh did (parts_with job plan t.mesh t.report) t.text)
    (λ (t : WordOutput). Reports IsTraced job plan (parts_with job plan t.mesh t.report) t.text)
    (λ t tells. reports job plan mesh IsTraced did _ t.text (subst (λ (s : State). MeetsJobLedger s plan.nets job.run.packets) (sym reached) (ledger job.run.events))
    (λ report told. record { reached = reached; answered = told.same_did ∙ answered; each = λ n. ledger (take n job.run.events) }) tells)
    c.reported.ensures
