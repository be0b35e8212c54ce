-- Steps that are refused: by a fault, or for want of memory.
use Rattle.std.proofs.Common.{◌≡◌, ℕ, ◌≤◌, List, [], ◌∷◌, length, nat_lt, Bool, true, false, if◌then◌else◌, arith, Option, Some, None, IfSome, Err, sym, subst}
use Rattle.std.specs.{List.list_any, Prelude.is_some}
use Rattle.serde_json.specs.Data.{Data}
use Rattle.spin_apps.specs.Answers.{AreAnswered, is_load}
use Rattle.app_loads.specs.{Applications.AreApps, Host.Host}
use Rattle.job_requests.specs.{Steps.steps_faults, Steps.steps_value, declared.steps.Step.Step}
use Rattle.job_text.specs.{declared.faults.JobFault.JobFault, Json.json_of}
use Rattle.spin_input.specs.{Inputs.Reading, Inputs.read_fault, Inputs.too_long, Inputs.not_read_as, Inputs.no_memory, Kinds.input_by, Kinds.input_in, Steps.steps_from, Steps.steps_in}
use Rattle.spin_input.specs.Steps.{app_steps_of}
use Rattle.run_report.specs.{Refusals.status_of, declared.causes.Refusal.Refusal}
use Rattle.run_report.specs.declared.causes.Refusal.TheVariants as refusals
use Rattle.spin_top.specs.{Causes.HaveNoLines, Inputs.IsRefusedFor, Inputs.no_value, Inputs.no_answer, Made.AreDone, Made.HaveOneText}

-- what is answered to the steps that were read
pub done_of : (steps given : List Step) (apps : Option Host) (text : List ℕ) → given ≡ steps → AreAnswered given text apps → is_some apps ≡ list_any is_load given →
    IfSome apps AreApps → HaveOneText given text → AreDone steps apps text
done_of steps given apps text same answers is hold only = subst (λ s. AreDone s apps text) same (record { answers = answers; given = is; hold = hold; only = only })

pub none_refused : (steps : List Step) (r s : Refusal) → HaveNoLines steps r → HaveNoLines steps s → r ≡ s
none_refused steps r s a b = absurd a

-- a number that is none of 5 to 8
abbrev pub IsSpared : ℕ → Type 0
IsSpared n = 5 ≤ n → n ≤ 8 → ⊥

low : (n : ℕ) → n ≤ 4 → IsSpared n
low n few five eight = absurd (omega (arith, few, five))

nine : IsSpared 9
nine five eight = absurd (omega (arith, eight))

pub zero_spared : IsSpared 0
zero_spared = low 0 (omega arith)

pub fault_spared : IsSpared 3
fault_spared = low 3 (omega arith)

called : (r s : Refusal) → r ≡ s → IsSpared (status_of s) → IsSpared (status_of r)
called r s same spared = subst (λ x. IsSpared (status_of x)) (sym same) spared

-- bytes are refused by status 4
by_spared : {A : Type 0} (fs : List JobFault) (input : A) (r : Refusal) → input_by fs input ≡ Err r → IsSpared (status_of r)
by_spared [] input r is = cc
by_spared (f ∷ fs) input r is = let same : r ≡ refusals.Job f = cc in called r (refusals.Job f) same (low 4 (omega arith))

from_spared : (o : Option Data) (r : Refusal) → steps_from o ≡ Err r → IsSpared (status_of r)
unfolding app_steps_of
from_spared None r is = let same : r ≡ refusals.NotJson = cc in called r refusals.NotJson same (low 4 (omega arith))
from_spared (Some d) r is = by_spared (steps_faults d) (steps_value d) r is

in_spared : (bytes : List ℕ) (r : Refusal) → steps_in bytes ≡ Err r → IsSpared (status_of r)
unfolding input_in
in_spared bytes r is = by_length (nat_lt 16777216 (length bytes)) is
  where
    by_length : (long : Bool) → (if long then Err refusals.TooLong else steps_from (json_of bytes)) ≡ Err r → IsSpared (status_of r)
    by_length true is = let same : r ≡ refusals.TooLong = cc in called r refusals.TooLong same (low 4 (omega arith))
    by_length false is = from_spared (json_of bytes) r is

-- steps are refused by no status 5 to 8
pub bytes_refused_spared : (reading : Reading) (r : Refusal) → IsRefusedFor steps_in HaveNoLines reading r → IsSpared (status_of r)
bytes_refused_spared reading r refused = elim refused [
  | no_value none ↦ elim none [
    | read_fault part rose is ↦ called r refusals.ReadFault is (low 2 (omega arith))
    | too_long long quiet is ↦ called r refusals.TooLong is (low 4 (omega arith))
    | not_read_as bytes all quiet is ↦ in_spared bytes r is
    | no_memory few quiet is ↦ called r refusals.Memory is nine
  ]
  | no_answer steps read none ↦ absurd none
]

pub memory_spared : (r : Refusal) → r ≡ refusals.Memory → IsSpared (status_of r)
memory_spared r is = called r refusals.Memory is nine
