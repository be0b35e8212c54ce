use Rattle.spin_jobs.proofs.Common.{CanOpen, IsRunOf, JobWithPlan, Setup, ap, arith, length-map, loaded_of, setup_of, subst, sym, ◌∙◌}
use Rattle.spin_jobs.proofs.Opening.{job_of_nets, opened_ready}
use Rattle.spin_jobs.proofs.runs.open_job.Goals as goal

pub open_mesh-requires : goal.open_mesh-requires
open_mesh-requires c =
    let job = c.planned.inside.job.now in
    let plan = c.planned.inside.plan.now in
    let run : IsRunOf job.graph job.run = c.planned.invariant.run in
    let setup = c.in_ok-setup.ensures ∙ ap (λ (p : JobWithPlan). setup_of p.job p.plan) (sym c.planned.view_is) in
    subst (λ ns. CanOpen c.in_ok-setup.setup ns c.as_slice-packets.result.now) (sym c.as_slice-nets.ensures)
    (subst (CanOpen c.in_ok-setup.setup plan.nets) (sym c.as_slice-packets.ensures)
    (subst (λ (u : Setup). CanOpen u plan.nets job.run.packets) (sym setup) (record {
      tables = length-map plan.tables loaded_of ∙ c.planned.invariant.planned.one_table_each;
      sources = c.planned.invariant.planned.routing.stand.sources;
      few = omega (arith, run.few_packets);
      of_nets = job_of_nets job plan run c.planned.invariant.planned;
    })))

pub returns-clause-ready : goal.returns-clause-ready
returns-clause-ready c =
    opened_ready c.a_quiet_mesh_is_ready.ensures c.in_ok-setup.setup c.as_slice-nets.result.now c.as_slice-packets.result.now c.open_mesh.result
    c.open_mesh.ensures.opened c.open_mesh.ensures.mesh
