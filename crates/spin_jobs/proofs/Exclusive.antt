-- A job has a plan or one reason why it has none, since the compiler has one answer.
use Rattle.spin_jobs.proofs.Common.{CanBePlanned, Chip, CompileErr, CutOff, Description, Err, Final, Graph, HasBlocks, HasCutOff, HasLongTable, HasNoPlan, HasPlacement, IfOk, IsCompileCause, IsNameIn}
use Rattle.spin_jobs.proofs.Common.{IsPlanOf, IsPlanOfJob, Job, KeysOut, List, Memory, Names, NoMemory, NoRoom, Ok, Plan, Refusal, Result, TableLong, arith, one_item_at, refusal_of, refused_where}
use Rattle.spin_jobs.proofs.Common.{subst, sym, ℕ, ◌≡◌, ◌⊎◌}
use Rattle.place_fit.proofs.Determined as places
use Rattle.key_alloc.proofs.Determined as blocks
use Rattle.run_report.specs.declared.causes.Refusal.TheVariants as refusals

-- ---- the compiler

not_ok : (plan : Plan) (e f : CompileErr) → (◌≡◌ {A = Result Plan CompileErr} (Ok plan) (Err e)) ⊎ (◌≡◌ {A = Result Plan CompileErr} (Ok plan) (Err f)) → ⊥
not_ok plan e f its_3 = grind arith

same_error : (e f m : CompileErr) → (◌≡◌ {A = Result Plan CompileErr} (Err e) (Err f)) ⊎ (◌≡◌ {A = Result Plan CompileErr} (Err e) (Err m)) → (e ≡ f) ⊎ (e ≡ m)
same_error e f m its_3 = grind arith

module _ (m : Description) (graph : Graph) (target : ℕ) where
  -- a graph with a plan has no cause
  none_of_plan : (plan : Plan) → IsPlanOf m graph target plan → (e : CompileErr) → IsCompileCause m graph target e → (r : Refusal) → Names graph e r → ⊥
  none_of_plan plan is (NoRoom v) cause r names = not_ok plan (NoRoom v) Memory ((refused_where m graph target (Ok plan) is tt).no_room v cause)
  none_of_plan plan is (KeysOut n) cause r names = not_ok plan (KeysOut n) Memory ((refused_where m graph target (Ok plan) is tt).keys_out n cause.0 cause.1)
  none_of_plan plan is (CutOff n t) cause r names = not_ok plan (CutOff n t) Memory ((refused_where m graph target (Ok plan) is tt).cut_off n t cause)
  none_of_plan plan is (TableLong c t) cause r names = not_ok plan (TableLong c t) Memory ((refused_where m graph target (Ok plan) is tt).table_long c t cause.0)
  none_of_plan plan is Memory cause r names = absurd names

  one_cause : (e f : CompileErr) → IsCompileCause m graph target e → IsCompileCause m graph target f → (r : Refusal) → Names graph f r → (e ≡ f) ⊎ (e ≡ Memory)
  one_cause e (NoRoom v) cause other r names = same_error e (NoRoom v) Memory ((refused_where m graph target (Err e) tt cause).no_room v other)
  one_cause e (KeysOut n) cause other r names = same_error e (KeysOut n) Memory ((refused_where m graph target (Err e) tt cause).keys_out n other.0 other.1)
  one_cause e (CutOff n t) cause other r names = same_error e (CutOff n t) Memory ((refused_where m graph target (Err e) tt cause).cut_off n t other)
  one_cause e (TableLong c t) cause other r names = same_error e (TableLong c t) Memory ((refused_where m graph target (Err e) tt cause).table_long c t other.0)
  one_cause e Memory cause other r names = absurd names

  -- what an error is called has one name
  one_name : (e : CompileErr) (r s : Refusal) → Names graph e r → Names graph e s → r ≡ s
  one_name e r s a b = grind (arith, one_item_at)

  -- a graph whose vertices have places and whose nets have keys, and where no target is cut off, has no cause
  none_served : HasPlacement m graph → HasBlocks graph → ((i : ℕ) (chip : Chip) → HasCutOff m graph i chip → ⊥) →
      ((chip : Chip) (table : Final) → HasLongTable m graph target chip table → ⊥) → (e : CompileErr) → IsCompileCause m graph target e →
      (r : Refusal) → Names graph e r → ⊥
  none_served placed keyed joined short (NoRoom v) cause r names = places.not_both m graph.vertices placed.0 placed.1 v placed.2 cause
  none_served placed keyed joined short (KeysOut n) cause r names = blocks.not_both graph.nets keyed.0 n keyed.1 cause.1
  none_served placed keyed joined short (CutOff n t) cause r names = joined n t cause
  none_served placed keyed joined short (TableLong c t) cause r names = short c t cause.0
  none_served placed keyed joined short Memory cause r names = absurd names

-- ---- jobs

-- an error numbers what the same error numbers
pub name_in_same : (graph : Graph) (e f : CompileErr) (name : List ℕ) → e ≡ f → IsNameIn graph f name → IsNameIn graph e name
name_in_same graph e f name same is = subst (λ x. IsNameIn graph x name) (sym same) is

-- a refusal by the name that the compiler's error numbers
by_name : (graph : Graph) (e : CompileErr) (name : Result (List ℕ) NoMemory) → IfOk name (IsNameIn graph e) → Names graph e (refusal_of e name) ⊎ (refusal_of e name ≡ refusals.Memory)
by_name graph e name is = grind arith

pub no_plan_by_name : (job : Job) (e : CompileErr) (name : Result (List ℕ) NoMemory) (r : Refusal) → IsCompileCause job.machine job.graph job.run.target e →
    IfOk name (IsNameIn job.graph e) → r ≡ refusal_of e name → HasNoPlan job r ⊎ (r ≡ refusals.Memory)
no_plan_by_name job e name r cause named is = grind (arith, by_name job.graph e name named)

pub one_no_plan : (job : Job) (r s : Refusal) → HasNoPlan job r → HasNoPlan job s → r ≡ s
one_no_plan job r s a b = grind (arith, one_cause job.machine job.graph job.run.target a.error b.error a.cause b.cause s b.names, one_name)

pub planned_has_plan : (job : Job) (plan : Plan) (r : Refusal) → IsPlanOfJob job plan → HasNoPlan job r → ⊥
planned_has_plan job plan r is none = none_of_plan job.machine job.graph job.run.target plan is none.error none.cause r none.names

pub plannable_has_plan : (job : Job) (r : Refusal) → CanBePlanned job → HasNoPlan job r → ⊥
plannable_has_plan job r can none = none_served job.machine job.graph job.run.target can.placed can.keyed can.joined can.short none.error none.cause r none.names
