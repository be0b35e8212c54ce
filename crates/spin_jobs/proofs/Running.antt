-- Rounds from the opened mesh of a job, and copies put back between them: what is kept after each of these.
use Rattle.spin_jobs.proofs.Common.{AreNetsOn, AreOfNets, AreRight, HasKeptPasses, HasKeptRounds, HasPasses, HasRounds, IsMesh, IsMeshOf, IsPlanOfJob, IsReachedSoon, IsRoomy, IsRunOf, Job, LeadsSoon}
use Rattle.spin_jobs.proofs.Common.{List, MeetsJobLedger, NetPlan, Packet, Plan, Setup, State, [], after_put_back, ap, arith, by_putting_back, by_round, first_opened, kept_in, length, more, no_pass}
use Rattle.spin_jobs.proofs.Common.{none, opened, opened_mesh, opened_of, refl, round, rounds_in, rules, suc, then_put_back, then_round, ℕ, ◌≡◌, ◌≤◌}
use Rattle.spin_jobs.proofs.Opening.{job_of_nets, opened_keeps}

-- the law that what leads from mesh to mesh keeps the ledger of a job
abbrev Keeps : (ℕ → ℕ → State → State → Type 0) → Type 0
Keeps Leads = (patience turns : ℕ) (m n : State) (nets : List NetPlan) (packets : List Packet) → IsMesh m → AreRight m.setup.machine m.setup.tables nets →
    MeetsJobLedger m nets packets → Leads patience turns m n → MeetsJobLedger n nets packets

-- the law that it leads to a mesh of the same setup
abbrev LeadsOn : (ℕ → ℕ → State → State → Type 0) → Type 0
LeadsOn Leads = (patience turns : ℕ) (m n : State) → IsMesh m → Leads patience turns m n → IsMesh n × (n.setup ≡ m.setup)

-- the law that rounds make no dump record where queues have room for all packets
abbrev RoomyRoundsDropNone : Type 0
RoomyRoundsDropNone = (patience turns : ℕ) (setup : Setup) (n : State) (nets : List NetPlan) (packets : List Packet) → 1 ≤ patience →
    IsMesh (opened_mesh setup nets packets) → AreRight setup.machine setup.tables nets → AreNetsOn setup.machine setup.spots nets →
    AreOfNets nets packets → length packets ≤ setup.capacity → HasRounds patience turns (opened_mesh setup nets packets) n → n.dumped ≡ []

module _ (job : Job) (plan : Plan) (run : IsRunOf job.graph job.run) (planned : IsPlanOfJob job plan) (mesh : IsMesh (opened_of job plan)) where
  -- what leads on from the opened mesh leads to a mesh of the job
  mesh_of : (Leads : ℕ → ℕ → State → State → Type 0) → Keeps Leads → LeadsOn Leads → (n : State) → Leads job.run.patience job.run.turns (opened_of job plan) n → IsMeshOf job plan n
  mesh_of Leads keep on n led =
      let next = on job.run.patience job.run.turns (opened_of job plan) n mesh led in
      record {
        is_mesh = next.0;
        setup = next.1;
        ledger = keep job.run.patience job.run.turns (opened_of job plan) n plan.nets job.run.packets mesh planned.right (opened_keeps job plan run planned) led;
      }

  module _ (keep : Keeps HasRounds) (on : LeadsOn HasRounds) where
    pub by_rounds : (n : State) → HasRounds job.run.patience job.run.turns (opened_of job plan) n → IsMeshOf job plan n
    by_rounds = mesh_of HasRounds keep on

    -- each of the rounds keeps the ledger
    pub kept_rounds : (n : State) → HasRounds job.run.patience job.run.turns (opened_of job plan) n → HasKeptRounds job plan n
    kept_rounds n none = opened (opened_keeps job plan run planned)
    kept_rounds n (more f k n' before after passed) = round f k n' (kept_rounds k before) after passed (by_rounds n' (more f k n' before after passed)).ledger

    kept_as_many : (n : State) (rounds : HasRounds job.run.patience job.run.turns (opened_of job plan) n) → kept_in (kept_rounds n rounds) ≡ rounds_in rounds
    unfolding kept_rounds
    kept_as_many n none = refl
    kept_as_many n (more f k n' before after passed) = ap suc (kept_as_many k before)

    pub reached_soon : (n : State) → LeadsSoon job.run.patience job.run.turns (opened_of job plan) n → IsReachedSoon job plan n
    reached_soon n soon =
        let led = soon plan.nets job.run.packets planned.right (opened_keeps job plan run planned) in
        let many = kept_as_many n led.rounds in
        let few = led.few in
        record { rounds = kept_rounds n led.rounds; few = omega (arith, many, few) }

    -- what leads there soon leads there
    pub soon_leads : (n : State) → LeadsSoon job.run.patience job.run.turns (opened_of job plan) n → HasRounds job.run.patience job.run.turns (opened_of job plan) n
    soon_leads n soon = (soon plan.nets job.run.packets planned.right (opened_keeps job plan run planned)).rounds

  pub none_dropped : RoomyRoundsDropNone → (n : State) → HasRounds job.run.patience job.run.turns (opened_of job plan) n → IsRoomy job → n.dumped ≡ []
  none_dropped law n led roomy = search (rules, job_of_nets)

  module _ (keep : Keeps HasPasses) (on : LeadsOn HasPasses) where
    pub by_passes : (n : State) → HasPasses job.run.patience job.run.turns (opened_of job plan) n → IsMeshOf job plan n
    by_passes = mesh_of HasPasses keep on

    -- each round, and each copy put back, keeps the ledger
    pub kept_passes : (n : State) → HasPasses job.run.patience job.run.turns (opened_of job plan) n → HasKeptPasses job plan n
    kept_passes n no_pass = first_opened (opened_keeps job plan run planned)
    kept_passes n (by_round f k n' before after passed) =
        then_round f k n' (kept_passes k before) after passed (by_passes n' (by_round f k n' before after passed)).ledger
    kept_passes n (by_putting_back k before) = then_put_back k (kept_passes k before) (by_passes (after_put_back k) (by_putting_back k before)).ledger
