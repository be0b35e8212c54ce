-- The mesh that `trace` makes of a job: without an event nothing has left its vertex, so no router has a copy in hand.
use Rattle.std.proofs.Common.{◌≡◌, ◌*◌, [], Option, Some, None, IfSome, refl, sym, ap, ◌∙◌, subst}
use Rattle.std.specs.List.{slice_get}
use Rattle.std.proofs.lemmas.List.Elements.{All-replicate}
use Rattle.spin_base.specs.declared.copies.Packet.{Packet}
use Rattle.machine_desc.specs.declared.nets.NetPlan.{NetPlan}
use Rattle.mesh_core.specs.{State.Hand, State.State, Step.after_events, Opened.MeetsJobLedger, Whereabouts.IsTracked}
use Rattle.mesh_example.proofs.Tracked.{job_tracked}
use Rattle.mesh_round.specs.RoundFlow.{HasNoHand}
use Rattle.job_readers.specs.declared.jobs.Job.{Job}
use Rattle.par_compile.specs.declared.compiling.Plan.{Plan}
use Rattle.run_report.specs.declared.reports.Report.{Report}
use Rattle.spin_jobs.specs.{declared.outcomes.Parts.Parts, Parts.WhereRun, Planned.opened_of, Planned.setup_of, Words.IsTraced}
use Rattle.round_trials.specs.Kept.{KeepsLedger}

no_hand : (job : Job) (plan : Plan) (mesh : State) (report : Report) → IsTraced job plan mesh report → job.run.events ≡ [] → HasNoHand mesh
no_hand job plan mesh report is none =
    let u = setup_of job plan in
    subst HasNoHand (sym (is.reached ∙ ap (after_events (opened_of job plan)) none))
    (All-replicate (λ (h : Option Hand). h ≡ None) (u.machine.width * u.machine.height) None refl)

given : {A : Type 0} (o : Option A) (x : A) (P : A → Type 0) → o ≡ Some x → IfSome o P → P x
given o x P is has = subst (λ o. IfSome o P) is has

-- A packet of the first net is tracked, where a mesh is given with all else.
pub first_tracked : (parts : Parts) (job : Job) (plan : Plan) (mesh : State) (report : Report) (packet : Packet) (net : NetPlan) → WhereRun parts KeepsLedger →
    parts.job ≡ Some job → parts.plan ≡ Some plan → parts.mesh ≡ Some mesh → parts.report ≡ Some report →
    slice_get job.run.packets 0 ≡ Some packet → slice_get plan.nets 0 ≡ Some net → packet.net ≡ 0 → IsTracked mesh net 0
first_tracked parts job plan mesh report packet net kept has_job has_plan has_mesh has_report at is first =
    let ledger : MeetsJobLedger mesh plan.nets job.run.packets =
    given parts.report report (λ r. KeepsLedger job plan mesh r) has_report
    (given parts.mesh mesh (λ m. IfSome parts.report (λ r. KeepsLedger job plan m r)) has_mesh
    (given parts.plan plan (λ p. IfSome parts.mesh (λ m. IfSome parts.report (λ r. KeepsLedger job p m r))) has_plan
    (given parts.job job (λ j. IfSome parts.plan (λ p. IfSome parts.mesh (λ m. IfSome parts.report (λ r. KeepsLedger j p m r)))) has_job kept)))
    in
    job_tracked mesh plan.nets job.run.packets ledger 0 packet net at (ap (slice_get plan.nets) first ∙ is)
