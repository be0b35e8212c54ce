-- What follows from how a call ends.
use Rattle.std.proofs.Common.{◌≡◌, ◌⊎◌, ℕ, List, Option, Some, None, Result, Ok, Err, IfSome, refl, sym, ap, ◌∙◌, subst, inl, inr}
use Rattle.std.specs.Prelude.{MatchResult}
use Rattle.spin_base.specs.{declared.wants.Memory.Memory, Outside.FaultsRose}
use Rattle.app_loads.specs.{Applications.AreApps, Host.Host}
use Rattle.job_requests.specs.declared.{steps.Step.Step, requests.Request.Request}
use Rattle.mesh_core.specs.{State.State, Opened.MeetsJobLedger}
use Rattle.job_readers.specs.declared.jobs.Job.{Job}
use Rattle.run_report.specs.{declared.reports.Report.Report, declared.causes.Refusal.Refusal, Refusals.line_of, Refusals.status_at}
use Rattle.par_compile.specs.declared.compiling.Plan.{Plan}
use Rattle.spin_words.specs.{Commands.spelled, Commands.ReadsJob, declared.commands.Command.Command, declared.commands.Command.TheVariants.OfJob, declared.commands.Command.TheVariants.Check}
use Rattle.spin_words.specs.declared.commands.{Command.TheVariants.Apps, JobWord.JobWord, JobWord.TheVariants.Run, JobWord.TheVariants.Reinject, JobWord.TheVariants.Trace, JobWord.TheVariants.Compile}
use Rattle.spin_words.specs.declared.commands.JobWord.TheVariants.{Tables, Gen}
use Rattle.run_report.specs.declared.causes.Refusal.TheVariants as refusals
use Rattle.job_gen.specs.Generated.{gen_job}
use Rattle.spin_input.specs.{Inputs.Reading, Inputs.IsReadAs, Inputs.IsUntouched, Jobs.job_in, Jobs.job_of, Requests.request_in, Requests.request_of, Steps.steps_in, Steps.app_steps_of}
use Rattle.spin_input.proofs.JobBytes.{told_long}
use Rattle.spin_jobs.specs.{declared.outcomes.Parts.Parts, Parts.no_parts, Parts.WhereGiven, Parts.WhereRun, Planned.IsThePlan, Reinjecting.HasReinjected, Runs.HasRunOut, Unplanned.HasNoPlan}
use Rattle.spin_jobs.specs.Words.{IsTraced}
use Rattle.spin_jobs.proofs.{Exclusive.one_no_plan, Exclusive.planned_has_plan, Exclusive.plannable_has_plan, Generating.generated_planned, WordLaws.plan_given, WordLaws.ledger_given}
use Rattle.spin_jobs.proofs.WordLaws.{run_given, reinject_given, trace_given, generated_given}
use Rattle.spin_top.specs.{declared.outcomes.Outcome.Outcome, Causes.HasCause, Causes.usage, Causes.of_job, Causes.of_request, Causes.of_steps, Causes.no_memory, Causes.AreCommand, Causes.AskForApps}
use Rattle.spin_top.specs.{Causes.AskForCheck, Causes.AskForJob, Causes.HasNoNets, Causes.HaveNoLines, Causes.IsReadAsAsked, Ends.Ends, Ends.made, Ends.refused, Ends.Says, Ends.SaysSurely}
use Rattle.spin_top.specs.{Ends.IsExact, Ends.IsGenerated, Ends.IsOfApps, Ends.IsOfCheck, Ends.HasAnswer, Ends.has_plan, Ends.has_nets, Ends.has_steps, Inputs.AreRefused, Inputs.no_value}
use Rattle.spin_top.specs.{Inputs.no_answer, Made.HasNoJob, Made.IsJobOf, Made.from_job, Made.checked, Made.done, Made.IsMadeOfJob, Writing.IsWritten, Writing.Writing, Writing.told_unmade}
use Rattle.spin_top.proofs.{AppLaws.IsSpared, AppLaws.bytes_refused_spared, AppLaws.fault_spared, AppLaws.memory_spared, AppLaws.none_refused, AppLaws.zero_spared, CheckLaws.checked_has_nets}
use Rattle.spin_top.proofs.{CheckLaws.fault_other, CheckLaws.IsOther, CheckLaws.memory_other, CheckLaws.one_due, CheckLaws.refused_other, CheckLaws.with_nets, CheckLaws.zero_other, NameLaws.HasNames}
use Rattle.spin_top.proofs.{NameLaws.names_given, InputLaws.answered_not_refused, InputLaws.read_told, InputLaws.refusal_due, InputLaws.refused_in_part, InputLaws.refused_quiet}
use Rattle.spin_top.proofs.InputLaws.{served_memory}

-- ---- words

-- words are one command
none_some : (s : Option Command) (c : Command) → s ≡ None → s ≡ Some c → ⊥
none_some s c none some = cc

one_word : (s : Option Command) (v w : JobWord) → s ≡ Some (OfJob v) → s ≡ Some (OfJob w) → v ≡ w
one_word s v w is_v is_w = cc

job_not_check : (s : Option Command) (w : JobWord) → s ≡ Some (OfJob w) → s ≡ Some Check → ⊥
job_not_check s w job check = cc

job_not_apps : (s : Option Command) (w : JobWord) → s ≡ Some (OfJob w) → s ≡ Some Apps → ⊥
job_not_apps s w job apps = cc

check_not_apps : (s : Option Command) → s ≡ Some Check → s ≡ Some Apps → ⊥
check_not_apps s check apps = cc

-- `gen N` reads no job
gen_reads_none : (words : List (List ℕ)) (n : ℕ) → spelled words ≡ Some (OfJob (Gen n)) → AskForJob words → ⊥
gen_reads_none words n gen asks = subst ReadsJob (one_word (spelled words) asks.0 (Gen n) asks.1 gen) asks.2

-- a word that reads a job has that of the bytes
job_told : (w : JobWord) (reading : Reading) (job : Job) (bytes : List ℕ) → ReadsJob w → IsJobOf w reading job → reading.left ≡ Some bytes → job_in bytes ≡ Ok job
job_told Run reading job bytes reads its told = read_told job_in reading job bytes told its
job_told Reinject reading job bytes reads its told = read_told job_in reading job bytes told its
job_told Trace reading job bytes reads its told = read_told job_in reading job bytes told its
job_told Compile reading job bytes reads its told = read_told job_in reading job bytes told its
job_told Tables reading job bytes reads its told = read_told job_in reading job bytes told its
job_told (Gen n) reading job bytes reads its told = absurd reads

-- the job of `gen N` is that of the number
pub job_of_number : (w : JobWord) (reading : Reading) (job : Job) → IsJobOf w reading job → (n : ℕ) → w ≡ Gen n → job ≡ gen_job n
job_of_number w reading job its n is = (subst (λ v. IsJobOf v reading job) is its).1

-- the mesh of a report keeps the ledger of the job
abbrev KeepsLedger : Job → Plan → State → Report → Type 0
KeepsLedger job plan mesh report = MeetsJobLedger mesh plan.nets job.run.packets

-- ---- clauses

module _ {words : List (List ℕ)} {reading : Reading} {writing : Writing} {o : Outcome} (ends : Ends words reading writing o) where
  -- what holds of no parts, and of those that are made of a job, holds of the parts
  of_parts : (P : Parts → Type 0) → P no_parts → ((text : List ℕ) → IsMadeOfJob words reading o.parts text → P o.parts) → P o.parts
  of_parts P none by_job = elim ends [
    | made text m written ↦ elim m [
      | from_job j unloaded ↦ by_job text j
      | checked asks request read is parts unloaded ↦ subst P (sym parts) none
      | done asks steps read are parts ↦ subst P (sym parts) none
    ]
    | refused r cause parts unloaded written ↦ subst P (sym parts) none
  ]

  pub names_clause : WhereGiven o.parts HasNames
  names_clause = of_parts (λ p. WhereGiven p HasNames) tt (λ text m. names_given m.word m.job o.parts text m.made m.names)

  pub plan_clause : WhereGiven o.parts IsThePlan
  plan_clause = of_parts (λ p. WhereGiven p IsThePlan) tt (λ text m. plan_given m.made)

  pub ledger_clause : WhereRun o.parts KeepsLedger
  ledger_clause = of_parts (λ p. WhereRun p KeepsLedger) tt (λ text m. ledger_given m.made)

  pub run_clause : spelled words ≡ Some (OfJob Run) → WhereRun o.parts HasRunOut
  run_clause asked = of_parts (λ p. WhereRun p HasRunOut) tt (λ text m. run_given m.made (one_word (spelled words) m.word Run m.is_word asked))

  pub reinject_clause : spelled words ≡ Some (OfJob Reinject) → WhereRun o.parts HasReinjected
  reinject_clause asked = of_parts (λ p. WhereRun p HasReinjected) tt (λ text m. reinject_given m.made (one_word (spelled words) m.word Reinject m.is_word asked))

  pub trace_clause : spelled words ≡ Some (OfJob Trace) → WhereRun o.parts IsTraced
  trace_clause asked = of_parts (λ p. WhereRun p IsTraced) tt (λ text m. trace_given m.made (one_word (spelled words) m.word Trace m.is_word asked))

  -- ---- each cause has its answer

  -- what is written in place of a line is said
  says : (r s : Refusal) → IsWritten writing (line_of s) (Some s) o.refusal → (s ≡ r) ⊎ ((s ≡ refusals.ReadFault) ⊎ (s ≡ refusals.Memory)) → Says o.refusal r
  says r s (inr part) due = inr (inl part.0)
  says r s (inl whole) (inl same) = inl (whole.0 ∙ ap Some same)
  says r s (inl whole) (inr (inl fault)) = inr (inr (inl (whole.0 ∙ ap Some fault)))
  says r s (inl whole) (inr (inr memory)) = inr (inr (inr (whole.0 ∙ ap Some memory)))

  -- words that are no command
  say_usage : spelled words ≡ None → SaysSurely o.refusal refusals.Usage
  say_usage none = elim ends [
    | made text m written ↦ elim m [
      | from_job j unloaded ↦ absurd (none_some (spelled words) (OfJob j.word) none j.is_word)
      | checked asks request read is parts unloaded ↦ absurd (none_some (spelled words) Check none asks)
      | done asks steps read are parts ↦ absurd (none_some (spelled words) Apps none asks)
    ]
    | refused r cause parts unloaded written ↦
        let same : r ≡ refusals.Usage = elim cause [
          | usage asked untouched is ↦ is
          | of_job asks none' ↦ absurd (none_some (spelled words) (OfJob asks.0) none asks.1)
          | of_request asks none' ↦ absurd (none_some (spelled words) Check none asks)
          | of_steps asks none' ↦ absurd (none_some (spelled words) Apps none asks)
          | no_memory command part is ↦ absurd (command none)
        ]
        in
        elim written [
          | inl whole ↦ inl (whole.0 ∙ ap Some same)
          | inr part ↦ inr part.0
        ]
  ]

  -- bytes that are refused as a job
  say_of_job : AskForJob words → (bytes : List ℕ) → reading.left ≡ Some bytes → (r : Refusal) → AreRefused job_in HasNoPlan bytes r → Says o.refusal r
  say_of_job asks bytes told r are = elim ends [
    | made text m written ↦ elim m [
      | from_job j unloaded ↦
          let reads : ReadsJob j.word = subst ReadsJob (one_word (spelled words) asks.0 j.word asks.1 j.is_word) asks.2 in
          absurd (answered_not_refused job_in HasNoPlan bytes r j.job (job_told j.word reading j.job bytes reads j.its_job told)
          (planned_has_plan j.job j.made.plan r j.made.planned.0) are)
      | checked check request read is parts unloaded ↦ absurd (job_not_check (spelled words) asks.0 asks.1 check)
      | done apps steps read are' parts ↦ absurd (job_not_apps (spelled words) asks.0 asks.1 apps)
    ]
    | refused s cause parts unloaded written ↦ says r s written (elim cause [
      | usage none untouched is ↦ absurd (none_some (spelled words) (OfJob asks.0) none asks.1)
      | of_job asked none ↦ refusal_due job_in HasNoPlan (told_long job_of) one_no_plan reading bytes told r s are none
      | of_request check none ↦ absurd (job_not_check (spelled words) asks.0 asks.1 check)
      | of_steps apps none ↦ absurd (job_not_apps (spelled words) asks.0 asks.1 apps)
      | no_memory command part is ↦ inr (inr is)
    ])
  ]

  -- bytes that are refused as a request
  say_of_request : AskForCheck words → (bytes : List ℕ) → reading.left ≡ Some bytes → (r : Refusal) → AreRefused request_in HasNoNets bytes r → Says o.refusal r
  say_of_request asks bytes told r are = elim ends [
    | made text m written ↦ elim m [
      | from_job j unloaded ↦ absurd (job_not_check (spelled words) j.word j.is_word asks)
      | checked check request read is parts unloaded ↦
          absurd (answered_not_refused request_in HasNoNets bytes r request (read_told request_in reading request bytes told read) (checked_has_nets request text r is) are)
      | done apps steps read are' parts ↦ absurd (check_not_apps (spelled words) asks apps)
    ]
    | refused s cause parts unloaded written ↦ says r s written (elim cause [
      | usage none untouched is ↦ absurd (none_some (spelled words) Check none asks)
      | of_job asked none ↦ absurd (job_not_check (spelled words) asked.0 asked.1 asks)
      | of_request check none ↦ refusal_due request_in HasNoNets (told_long request_of) one_due reading bytes told r s are none
      | of_steps apps none ↦ absurd (check_not_apps (spelled words) asks apps)
      | no_memory command part is ↦ inr (inr is)
    ])
  ]

  -- bytes that are refused as steps
  say_of_steps : AskForApps words → (bytes : List ℕ) → reading.left ≡ Some bytes → (r : Refusal) → AreRefused steps_in HaveNoLines bytes r → Says o.refusal r
  say_of_steps asks bytes told r are = elim ends [
    | made text m written ↦ elim m [
      | from_job j unloaded ↦ absurd (job_not_apps (spelled words) j.word j.is_word asks)
      | checked check request read is parts unloaded ↦ absurd (check_not_apps (spelled words) check asks)
      | done apps steps read are' parts ↦
          absurd (answered_not_refused steps_in HaveNoLines bytes r steps (read_told steps_in reading steps bytes told read) (λ none. none) are)
    ]
    | refused s cause parts unloaded written ↦ says r s written (elim cause [
      | usage none untouched is ↦ absurd (none_some (spelled words) Apps none asks)
      | of_job asked none ↦ absurd (job_not_apps (spelled words) asked.0 asked.1 asks)
      | of_request check none ↦ absurd (check_not_apps (spelled words) check asks)
      | of_steps apps none ↦ refusal_due steps_in HaveNoLines (told_long app_steps_of) none_refused reading bytes told r s are none
      | no_memory command part is ↦ inr (inr is)
    ])
  ]

  pub exact_clause : IsExact words reading.left o.refusal
  exact_clause = record { no_command = say_usage; of_job = say_of_job; of_request = say_of_request; of_steps = say_of_steps }

  -- ---- generated jobs

  -- a text that is written, or a line of want of memory
  status_written : (text : List ℕ) (said : Option Refusal) → o.status ≡ status_at o.refusal → IsWritten writing text said o.refusal →
      (status_at said ≡ 0) ⊎ (status_at said ≡ 9) → (o.status ≡ 0) ⊎ ((o.status ≡ 9) ⊎ ((o.status ≡ 3) × FaultsRose writing.faults writing.faults'))
  status_written text said status (inl whole) (inl zero) = inl (status ∙ (ap status_at whole.0 ∙ zero))
  status_written text said status (inl whole) (inr nine) = inr (inl (status ∙ (ap status_at whole.0 ∙ nine)))
  status_written text said status (inr part) due = inr (inr (status ∙ ap status_at part.0, part.2))

  -- what is made of the job of a number
  made_generated : o.status ≡ status_at o.refusal → (n : ℕ) → spelled words ≡ Some (OfJob (Gen n)) → (text : List ℕ) → IsMadeOfJob words reading o.parts text →
      IsWritten writing text None o.refusal → IsGenerated reading writing o
  made_generated status n asked text j written =
      let its : j.word ≡ Gen n = one_word (spelled words) j.word (Gen n) j.is_word asked in
      record {
        untouched = (subst (λ w. IsJobOf w reading j.job) its j.its_job).0;
        ran = generated_given j.made n its;
        status = status_written text None status written (inl refl);
      }

  pub generated_clause : o.status ≡ status_at o.refusal → (n : ℕ) → spelled words ≡ Some (OfJob (Gen n)) → IsGenerated reading writing o
  generated_clause status n asked = elim ends [
    | made text m written ↦ elim m [
      | from_job j unloaded ↦ made_generated status n asked text j written
      | checked check request read is parts unloaded ↦ absurd (job_not_check (spelled words) (Gen n) asked check)
      | done apps steps read are parts ↦ absurd (job_not_apps (spelled words) (Gen n) asked apps)
    ]
    | refused r cause parts unloaded written ↦
        let failed : IsUntouched reading × (r ≡ refusals.Memory) = elim cause [
          | usage none untouched is ↦ absurd (none_some (spelled words) (OfJob (Gen n)) none asked)
          | of_job asks none ↦ absurd (gen_reads_none words n asked asks)
          | of_request check none ↦ absurd (job_not_check (spelled words) (Gen n) asked check)
          | of_steps apps none ↦ absurd (job_not_apps (spelled words) (Gen n) asked apps)
          | no_memory command part is ↦ (
            elim part [
              | inl read ↦ elim read.0 [
                | inl asks ↦ absurd (gen_reads_none words n asked asks)
                | inr others ↦ elim others [
                  | inl check ↦ absurd (job_not_check (spelled words) (Gen n) asked check)
                  | inr apps ↦ absurd (job_not_apps (spelled words) (Gen n) asked apps)
                ]
              ]
              | inr untouched ↦ untouched
            ],
            is,
          )
        ]
        in
        record {
          untouched = failed.0;
          ran = subst (λ (p : Parts). WhereRun p HasRunOut) (sym parts) tt;
          status = status_written (line_of r) (Some r) status written (inr (ap (λ x. status_at (Some x)) failed.1));
        }
  ]

  -- ---- checks

  -- what a call says has the status of what is written
  other_said : o.status ≡ status_at o.refusal → (text : List ℕ) (said : Option Refusal) → IsWritten writing text said o.refusal → IsOther (status_at said) → IsOther o.status
  other_said status text said (inl whole) other = subst IsOther (sym (status ∙ ap status_at whole.0)) other
  other_said status text said (inr part) other = subst IsOther (sym (status ∙ ap status_at part.0)) fault_other

  with_status : IsOther o.status → o.parts ≡ no_parts → IsOfCheck o
  with_status other none = record { none_given = none; no_cut_off = other.0; no_long_table = other.1 }

  pub check_clause : o.status ≡ status_at o.refusal → AskForCheck words → IsOfCheck o
  check_clause status asked = elim ends [
    | made text m written ↦ elim m [
      | from_job j unloaded ↦ absurd (job_not_check (spelled words) j.word j.is_word asked)
      | checked check request read is parts unloaded ↦ with_status (other_said status text None written zero_other) parts
      | done apps steps read are parts ↦ absurd (check_not_apps (spelled words) asked apps)
    ]
    | refused r cause parts unloaded written ↦
        with_status (other_said status (line_of r) (Some r) written (elim cause [
          | usage none untouched is ↦ absurd (none_some (spelled words) Check none asked)
          | of_job asks none ↦ absurd (job_not_check (spelled words) asks.0 asks.1 asked)
          | of_request check none ↦ refused_other reading r none
          | of_steps apps none ↦ absurd (check_not_apps (spelled words) asked apps)
          | no_memory command part is ↦ memory_other r is
        ])) parts
  ]

  -- ---- applications

  spared_said : o.status ≡ status_at o.refusal → (text : List ℕ) (said : Option Refusal) → IsWritten writing text said o.refusal → IsSpared (status_at said) → IsSpared o.status
  spared_said status text said (inl whole) spared = subst IsSpared (sym (status ∙ ap status_at whole.0)) spared
  spared_said status text said (inr part) spared = subst IsSpared (sym (status ∙ ap status_at part.0)) fault_spared

  of_apps : IsSpared o.status → o.parts ≡ no_parts → IfSome o.apps AreApps → IsOfApps o
  of_apps spared none hold = record { none_given = none; hold = hold; no_unplanned_job = spared }

  pub apps_clause : o.status ≡ status_at o.refusal → AskForApps words → IsOfApps o
  apps_clause status asked = elim ends [
    | made text m written ↦ elim m [
      | from_job j unloaded ↦ absurd (job_not_apps (spelled words) j.word j.is_word asked)
      | checked check request read is parts unloaded ↦ absurd (check_not_apps (spelled words) check asked)
      | done apps steps read are parts ↦ of_apps (spared_said status text None written zero_spared) parts are.hold
    ]
    | refused r cause parts unloaded written ↦
        of_apps (spared_said status (line_of r) (Some r) written (elim cause [
          | usage none untouched is ↦ absurd (none_some (spelled words) Apps none asked)
          | of_job asks none ↦ absurd (job_not_apps (spelled words) asks.0 asks.1 asked)
          | of_request check none ↦ absurd (check_not_apps (spelled words) check asked)
          | of_steps apps none ↦ bytes_refused_spared reading r none
          | no_memory command part is ↦ memory_spared r is
        ])) parts (subst (λ (x : Option Host). IfSome x AreApps) (sym unloaded) tt)
  ]

  -- ---- when a call succeeds

  -- where there is an answer, and the source has no fault, want of memory is the only cause
  only_memory : HasAnswer words reading.left → (FaultsRose reading.faults reading.faults' → ⊥) → (r : Refusal) → HasCause words reading r → r ≡ refusals.Memory
  only_memory answer quiet r cause = elim answer [
    | has_plan asks served ↦ elim cause [
      | usage none untouched is ↦ absurd (none_some (spelled words) (OfJob asks.0) none asks.1)
      | of_job asked none ↦ served_memory job_in HasNoPlan (told_long job_of) reading served.bytes served.value served.told served.read quiet r (plannable_has_plan served.value r served.can) none
      | of_request check none ↦ absurd (job_not_check (spelled words) asks.0 asks.1 check)
      | of_steps apps none ↦ absurd (job_not_apps (spelled words) asks.0 asks.1 apps)
      | no_memory command part is ↦ is
    ]
    | has_nets asks served ↦ elim cause [
      | usage none untouched is ↦ absurd (none_some (spelled words) Check none asks)
      | of_job asked none ↦ absurd (job_not_check (spelled words) asked.0 asked.1 asks)
      | of_request check none ↦ served_memory request_in HasNoNets (told_long request_of) reading served.bytes served.value served.told served.read quiet r (with_nets served.value r served.can) none
      | of_steps apps none ↦ absurd (check_not_apps (spelled words) asks apps)
      | no_memory command part is ↦ is
    ]
    | has_steps asks served ↦ elim cause [
      | usage none untouched is ↦ absurd (none_some (spelled words) Apps none asks)
      | of_job asked none ↦ absurd (job_not_apps (spelled words) asked.0 asked.1 asks)
      | of_request check none ↦ absurd (check_not_apps (spelled words) check asks)
      | of_steps apps none ↦ served_memory steps_in HaveNoLines (told_long app_steps_of) reading served.bytes served.value served.told served.read quiet r (λ never. never) none
      | no_memory command part is ↦ is
    ]
  ]

  pub complete_clause : HasAnswer words reading.left → (FaultsRose reading.faults reading.faults' → ⊥) → o.status ≡ status_at o.refusal →
      (FaultsRose writing.faults writing.faults' → ⊥) → (o.status ≡ 0) ⊎ (o.status ≡ 9)
  complete_clause answer quiet_source status quiet_sink = elim ends [
    | made text m written ↦ elim written [
      | inl whole ↦ inl (status ∙ ap status_at whole.0)
      | inr part ↦ absurd (quiet_sink part.2)
    ]
    | refused r cause parts unloaded written ↦ elim written [
      | inl whole ↦ inr (status ∙ (ap status_at whole.0 ∙ ap (λ x. status_at (Some x)) (only_memory answer quiet_source r cause)))
      | inr part ↦ absurd (quiet_sink part.2)
    ]
  ]

-- ---- what was read

-- a refusal in place of which want of memory is told is not that of a failed read, nor that of words that are no command
no_failed_read : (r : Refusal) → told_unmade r ≡ refusals.Memory → r ≡ refusals.ReadFault → ⊥
no_failed_read r memory is = let other : refusals.ReadFault ≡ refusals.Memory = sym (ap told_unmade is) ∙ memory in cc

no_usage : (r : Refusal) → told_unmade r ≡ refusals.Memory → r ≡ refusals.Usage → ⊥
no_usage r memory is = let other : refusals.Usage ≡ refusals.Memory = sym (ap told_unmade is) ∙ memory in cc

-- where there is such a refusal, what was read is what the words ask for
pub read_as_asked : (words : List (List ℕ)) (reading : Reading) (r : Refusal) → HasCause words reading r → told_unmade r ≡ refusals.Memory → IsReadAsAsked words reading
read_as_asked words reading r cause memory = elim cause [
  | usage none untouched is ↦ inr untouched
  | of_job asks none ↦ inl (inl asks, refused_in_part job_in HasNoPlan reading r none, refused_quiet job_in HasNoPlan reading r (no_failed_read r memory) none)
  | of_request asks none ↦ inl (inr (inl asks), refused_in_part request_in HasNoNets reading r none, refused_quiet request_in HasNoNets reading r (no_failed_read r memory) none)
  | of_steps asks none ↦ inl (inr (inr asks), refused_in_part steps_in HaveNoLines reading r none, refused_quiet steps_in HaveNoLines reading r (no_failed_read r memory) none)
  | no_memory command part is ↦ part
]

-- where there is such a refusal, the words are a command
pub told_command : (words : List (List ℕ)) (reading : Reading) (r : Refusal) → HasCause words reading r → told_unmade r ≡ refusals.Memory → AreCommand words
told_command words reading r cause memory none = elim cause [
  | usage asked untouched is ↦ no_usage r memory is
  | of_job asks without ↦ none_some (spelled words) (OfJob asks.0) none asks.1
  | of_request asks without ↦ none_some (spelled words) Check none asks
  | of_steps asks without ↦ none_some (spelled words) Apps none asks
  | no_memory command part is ↦ command none
]

-- ---- words of a job

module _ (words : List (List ℕ)) (reading : Reading) where
  spells : (c : Command) → spelled words ≡ Some c → AreCommand words
  spells c is none = none_some (spelled words) c none is

  -- why a word has no job
  pub cause_without_job : (w : JobWord) → spelled words ≡ Some (OfJob w) → (r : Refusal) → HasNoJob w reading r → HasCause words reading r
  cause_without_job Run is r none = of_job (Run, is, tt) (no_value none)
  cause_without_job Reinject is r none = of_job (Reinject, is, tt) (no_value none)
  cause_without_job Trace is r none = of_job (Trace, is, tt) (no_value none)
  cause_without_job Compile is r none = of_job (Compile, is, tt) (no_value none)
  cause_without_job Tables is r none = of_job (Tables, is, tt) (no_value none)
  cause_without_job (Gen n) is r none = no_memory (spells (OfJob (Gen n)) is) (inr none.0) none.1

  -- why the job of a word has no plan: that of a number has one
  without_plan : (w : JobWord) (job : Job) → spelled words ≡ Some (OfJob w) → IsJobOf w reading job → (r : Refusal) → HasNoPlan job r → HasCause words reading r
  without_plan Run job is its r none = of_job (Run, is, tt) (no_answer job its none)
  without_plan Reinject job is its r none = of_job (Reinject, is, tt) (no_answer job its none)
  without_plan Trace job is its r none = of_job (Trace, is, tt) (no_answer job its none)
  without_plan Compile job is its r none = of_job (Compile, is, tt) (no_answer job its none)
  without_plan Tables job is its r none = of_job (Tables, is, tt) (no_answer job its none)
  without_plan (Gen n) job is its r none = absurd (generated_planned n r (subst (λ j. HasNoPlan j r) its.1 none))

  -- what was read for the job of a word
  read_for_job : (w : JobWord) (job : Job) → spelled words ≡ Some (OfJob w) → IsJobOf w reading job → IsReadAsAsked words reading
  read_for_job Run job is its = inl (inl (Run, is, tt), (its.bytes, its.all.gives), its.no_fault)
  read_for_job Reinject job is its = inl (inl (Reinject, is, tt), (its.bytes, its.all.gives), its.no_fault)
  read_for_job Trace job is its = inl (inl (Trace, is, tt), (its.bytes, its.all.gives), its.no_fault)
  read_for_job Compile job is its = inl (inl (Compile, is, tt), (its.bytes, its.all.gives), its.no_fault)
  read_for_job Tables job is its = inl (inl (Tables, is, tt), (its.bytes, its.all.gives), its.no_fault)
  read_for_job (Gen n) job is its = inr its.0

  -- why nothing is made of the job of a word
  pub cause_with_job : (w : JobWord) (job : Job) → spelled words ≡ Some (OfJob w) → IsJobOf w reading job → (r : Refusal) → HasNoPlan job r ⊎ (r ≡ refusals.Memory) → HasCause words reading r
  cause_with_job w job is its r (inl none) = without_plan w job is its r none
  cause_with_job w job is its r (inr memory) = no_memory (spells (OfJob w) is) (read_for_job w job is its) memory

  -- why a request has no answer
  pub cause_with_request : AskForCheck words → (request : Request) → IsReadAs request_in reading request → (r : Refusal) → HasNoNets request r ⊎ (r ≡ refusals.Memory) → HasCause words reading r
  cause_with_request asks request read r (inl none) = of_request asks (no_answer request read none)
  cause_with_request asks request read r (inr memory) = no_memory (spells Check asks) (inl (inr (inl asks), (read.bytes, read.all.gives), read.no_fault)) memory

  -- why steps have no answer
  pub cause_with_steps : AskForApps words → (steps : List Step) → IsReadAs steps_in reading steps → (r : Refusal) → r ≡ refusals.Memory → HasCause words reading r
  cause_with_steps asks steps read r memory = no_memory (spells Apps asks) (inl (inr (inr asks), (read.bytes, read.all.gives), read.no_fault)) memory

-- ---- what is written of a refusal

-- what holds of the refusal where its line was made, and of the one that is told where it was not, holds of it, or of want of memory
pub made_or_unmade : {T : Type 0} (line : Result T Memory) (r : Refusal) (P : Refusal → Type 0) → MatchResult line (λ _. P r) (λ _. P (told_unmade r)) →
    P r ⊎ ((told_unmade r ≡ refusals.Memory) × P refusals.Memory)
made_or_unmade (Ok text) r P holds = inl holds
made_or_unmade (Err want) r P holds = unmade r holds
  where
    unmade : (q : Refusal) → P (told_unmade q) → P q ⊎ ((told_unmade q ≡ refusals.Memory) × P refusals.Memory)
    unmade refusals.Usage same = inl same
    unmade refusals.ReadFault same = inl same
    unmade refusals.WriteFault memory = inr (refl, memory)
    unmade refusals.TooLong memory = inr (refl, memory)
    unmade refusals.NotJson memory = inr (refl, memory)
    unmade (refusals.Job fault) memory = inr (refl, memory)
    unmade (refusals.NoRoom vertex) memory = inr (refl, memory)
    unmade (refusals.KeysOut net) memory = inr (refl, memory)
    unmade (refusals.CutOff net target) memory = inr (refl, memory)
    unmade (refusals.TableLong chip table) memory = inr (refl, memory)
    unmade refusals.Memory memory = inr (refl, memory)

-- what was written of a refusal was written of the one that is told, where this is it
pub told_written : {K : Type 0} (writing : K → Writing) (sink sink' : K) (o o' : Outcome) (r told : Refusal) → IsWritten (writing sink') (line_of told) (Some told) o'.refusal →
    sink ≡ sink' → o ≡ o' → told_unmade r ≡ told → IsWritten (writing sink) (line_of (told_unmade r)) (Some (told_unmade r)) o.refusal
told_written writing sink sink' o o' r told written same_sink same_outcome is =
    subst (λ x. IsWritten (writing x) (line_of (told_unmade r)) (Some (told_unmade r)) o.refusal) (sym same_sink)
    (subst (λ (x : Outcome). IsWritten (writing sink') (line_of (told_unmade r)) (Some (told_unmade r)) x.refusal) (sym same_outcome)
    (subst (λ x. IsWritten (writing sink') (line_of x) (Some x) o'.refusal) (sym is) written))
