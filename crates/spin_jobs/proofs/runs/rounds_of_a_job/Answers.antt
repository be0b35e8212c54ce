use Rattle.spin_jobs.proofs.Common.{HasRounds, IsMesh, LeadsSoon, State, opened_of, subst}
use Rattle.spin_jobs.proofs.Running.{by_rounds, none_dropped, reached_soon, soon_leads}
use Rattle.spin_jobs.proofs.runs.rounds_of_a_job.Goals as goal

pub returns : goal.returns
returns c = λ job plan m n run planned is_mesh is_opened soon.
    let mesh : IsMesh (opened_of job plan) = subst IsMesh is_opened is_mesh in
    let led : LeadsSoon job.run.patience job.run.turns (opened_of job plan) n = subst (λ (s : State). LeadsSoon job.run.patience job.run.turns s n) is_opened soon in
    let rounds : HasRounds job.run.patience job.run.turns (opened_of job plan) n = soon_leads job plan run planned mesh c.rounds_keep_the_ledger.ensures c.rounds_lead_to_a_mesh.ensures n led in (
      reached_soon job plan run planned mesh c.rounds_keep_the_ledger.ensures c.rounds_lead_to_a_mesh.ensures n led,
      by_rounds job plan run planned mesh c.rounds_keep_the_ledger.ensures c.rounds_lead_to_a_mesh.ensures n rounds,
      none_dropped job plan run planned mesh c.roomy_rounds_deliver_all.ensures.no_record n rounds,
    )
