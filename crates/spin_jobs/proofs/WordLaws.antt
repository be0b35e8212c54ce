-- What holds of the parts that a word makes of a job.
use Rattle.spin_jobs.proofs.Common.{Err, Gen, HasReinjected, HasRunOut, IfOk, IsMadeOf, IsRunKept, IsThePlan, IsTraced, Job, JobWord, List, Makes, MeetsJobLedger, Ok, Parts, Plan, Reinject, Report}
use Rattle.spin_jobs.proofs.Common.{Result, Run, State, Trace, WhereGiven, WhereRun, WordOutput, arith, parts_with, plan_parts, run_parts, ℕ, ◌≡◌}

-- what each value has, each value has that has more
pub ok_weaker : {A E : Type 0} (r : Result A E) (P Q : A → Type 0) → ((x : A) → P x → Q x) → IfOk r P → IfOk r Q
ok_weaker (Ok x) P Q more has = more x has
ok_weaker (Err e) P Q more has = has

-- what holds of an output is what a word makes, of the job that it is to be made of
pub made_by : {E X : Type 0} {w : JobWord} {job : Job} {plan : Plan} (r : Result WordOutput E) (P : Job → Plan → Parts → List ℕ → Type 0) →
    ((parts : Parts) (text : List ℕ) → P job plan parts text → X → Makes w job plan parts text) →
    IfOk r (λ t. P job plan (parts_with job plan t.mesh t.report) t.text) → IfOk r (λ t. X → Makes w job plan (parts_with job plan t.mesh t.report) t.text)
made_by {job = job} {plan = plan} (Ok t) P makes has = makes (parts_with job plan t.mesh t.report) t.text has
made_by (Err e) P makes has = has

-- ---- one word at a time

reinject_not_run : (w : JobWord) → w ≡ Reinject → w ≡ Run → ⊥
reinject_not_run w reinject run = cc

trace_not_run : (w : JobWord) → w ≡ Trace → w ≡ Run → ⊥
trace_not_run w trace run = cc

reinject_not_trace : (w : JobWord) → w ≡ Reinject → w ≡ Trace → ⊥
reinject_not_trace w reinject trace = cc

gen_not_reinject : (w : JobWord) (n : ℕ) → w ≡ Gen n → w ≡ Reinject → ⊥
gen_not_reinject w n gen reinject = cc

gen_not_trace : (w : JobWord) (n : ℕ) → w ≡ Gen n → w ≡ Trace → ⊥
gen_not_trace w n gen trace = cc

-- what holds of the parts that each word makes holds of the parts
by_word : (P : Parts → Type 0) (w : JobWord) (job : Job) (plan : Plan) (parts : Parts) (text : List ℕ) → Makes w job plan parts text →
    (w ≡ Run → (mesh : State) (report : Report) → IsRunKept job plan mesh report → HasRunOut job plan mesh report → P (run_parts job plan mesh report)) →
    (w ≡ Reinject → (mesh : State) (report : Report) → IsRunKept job plan mesh report → HasReinjected job plan mesh report → P (run_parts job plan mesh report)) →
    (w ≡ Trace → (mesh : State) (report : Report) → IsRunKept job plan mesh report → IsTraced job plan mesh report → P (run_parts job plan mesh report)) →
    ((n : ℕ) → w ≡ Gen n → (mesh : State) (report : Report) → IsRunKept job plan mesh report → HasRunOut job plan mesh report → P (run_parts job plan mesh report)) →
    P (plan_parts job plan) → P parts
by_word P w job plan parts text makes on_run on_reinject on_trace on_gen on_tables = grind arith

-- ---- what is given

-- the mesh of a report keeps the ledger of the job
abbrev KeepsLedger : Job → Plan → State → Report → Type 0
KeepsLedger job plan mesh report = MeetsJobLedger mesh plan.nets job.run.packets

module _ {w : JobWord} {job : Job} {parts : Parts} {text : List ℕ} (m : IsMadeOf w job parts text) where
  pub plan_given : WhereGiven parts IsThePlan
  plan_given = grind (arith, by_word)

  pub ledger_given : WhereRun parts KeepsLedger
  ledger_given = grind (arith, by_word)

  pub run_given : w ≡ Run → WhereRun parts HasRunOut
  run_given asked = grind (arith, by_word, reinject_not_run, trace_not_run)

  pub reinject_given : w ≡ Reinject → WhereRun parts HasReinjected
  reinject_given asked = grind (arith, by_word, reinject_not_run, reinject_not_trace, gen_not_reinject)

  pub trace_given : w ≡ Trace → WhereRun parts IsTraced
  trace_given asked = grind (arith, by_word, trace_not_run, reinject_not_trace, gen_not_trace)

  pub generated_given : (n : ℕ) → w ≡ Gen n → WhereRun parts HasRunOut
  generated_given n asked = grind (arith, by_word, gen_not_reinject, gen_not_trace)
