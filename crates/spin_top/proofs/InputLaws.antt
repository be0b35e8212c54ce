-- What holds of each kind of input: bytes have one refusal or none, and a source that tells its bytes gave those.
use Rattle.std.proofs.Common.{◌≡◌, ◌⊎◌, ℕ, List, Option, Some, Result, Ok, Err, sym, ap, ◌∙◌, subst, inl, inr}
use Rattle.spin_base.specs.Outside.{FaultsRose, LosesMoreThan}
use Rattle.run_report.specs.declared.causes.Refusal.{Refusal}
use Rattle.run_report.specs.declared.causes.Refusal.TheVariants as refusals
use Rattle.spin_input.specs.Inputs.{Reading, HasNoFault, IsReadAs, IsReadInPart, HasNoInput, read_fault, too_long, not_read_as, no_memory}
use Rattle.spin_input.proofs.JobBytes.{told_bytes}
use Rattle.spin_top.specs.Inputs.{IsRefusedFor, no_value, no_answer, AreRefused, are_no_value, are_no_answer}

-- what was read, where there is no value
read_in_part : {A : Type 0} (value_in : List ℕ → Result A Refusal) (reading : Reading) (r : Refusal) → HasNoInput value_in reading r → IsReadInPart reading
read_in_part value_in reading r none = elim none [
  | read_fault part rose is ↦ part
  | too_long long quiet is ↦ (long.0, long.1)
  | not_read_as bytes all quiet is ↦ (bytes, all.gives)
  | no_memory few quiet is ↦ (few.0, few.1)
]

-- what was read, where there is no answer
pub refused_in_part : {A : Type 0} (value_in : List ℕ → Result A Refusal) (HasNone : A → Refusal → Type 0) (reading : Reading) (r : Refusal) →
    IsRefusedFor value_in HasNone reading r → IsReadInPart reading
refused_in_part value_in HasNone reading r refused = elim refused [
  | no_value none ↦ read_in_part value_in reading r none
  | no_answer value read none ↦ (read.bytes, read.all.gives)
]

-- no read failed, where there is no value by another refusal than that of a failed read
unread_quiet : {A : Type 0} (value_in : List ℕ → Result A Refusal) (reading : Reading) (r : Refusal) → (r ≡ refusals.ReadFault → ⊥) → HasNoInput value_in reading r → HasNoFault reading
unread_quiet value_in reading r other none = elim none [
  | read_fault part rose is ↦ absurd (other is)
  | too_long long quiet is ↦ quiet
  | not_read_as bytes all quiet is ↦ quiet
  | no_memory few quiet is ↦ quiet
]

-- nor where there is no answer
pub refused_quiet : {A : Type 0} (value_in : List ℕ → Result A Refusal) (HasNone : A → Refusal → Type 0) (reading : Reading) (r : Refusal) → (r ≡ refusals.ReadFault → ⊥) →
    IsRefusedFor value_in HasNone reading r → HasNoFault reading
refused_quiet value_in HasNone reading r other refused = elim refused [
  | no_value none ↦ unread_quiet value_in reading r other none
  | no_answer value read none ↦ read.no_fault
]

-- ---- sources that tell their bytes

-- what was read is what the bytes are
pub read_told : {A : Type 0} (value_in : List ℕ → Result A Refusal) (reading : Reading) (value : A) (bytes : List ℕ) → reading.left ≡ Some bytes →
    IsReadAs value_in reading value → value_in bytes ≡ Ok value
read_told value_in reading value bytes told read = subst (λ b. value_in b ≡ Ok value) (told_bytes reading.left reading.rest read.bytes bytes read.all told) read.is

-- whatever the reason why there is no value, it is a fault, want of memory, or what the bytes are refused for
unread_told : {A : Type 0} (value_in : List ℕ → Result A Refusal) (HasNone : A → Refusal → Type 0) →
    ((left rest : Option (List ℕ)) (bytes : List ℕ) → LosesMoreThan 16777216 left rest → left ≡ Some bytes → value_in bytes ≡ Err refusals.TooLong) →
    (reading : Reading) (r : Refusal) (bytes : List ℕ) → reading.left ≡ Some bytes → HasNoInput value_in reading r →
    AreRefused value_in HasNone bytes r ⊎ ((FaultsRose reading.faults reading.faults' × (r ≡ refusals.ReadFault)) ⊎ (r ≡ refusals.Memory))
unread_told value_in HasNone limited reading r bytes told none = elim none [
  | read_fault part rose is ↦ inr (inl (rose, is))
  | too_long long quiet is ↦ inl (are_no_value (limited reading.left reading.rest bytes long told ∙ ap Err (sym is)))
  | not_read_as given all quiet is ↦ inl (are_no_value (subst (λ b. value_in b ≡ Err r) (told_bytes reading.left reading.rest given bytes all told) is))
  | no_memory few quiet is ↦ inr (inr is)
]

-- and why there is no answer
refused_told : {A : Type 0} (value_in : List ℕ → Result A Refusal) (HasNone : A → Refusal → Type 0) →
    ((left rest : Option (List ℕ)) (bytes : List ℕ) → LosesMoreThan 16777216 left rest → left ≡ Some bytes → value_in bytes ≡ Err refusals.TooLong) →
    (reading : Reading) (r : Refusal) (bytes : List ℕ) → reading.left ≡ Some bytes → IsRefusedFor value_in HasNone reading r →
    AreRefused value_in HasNone bytes r ⊎ ((FaultsRose reading.faults reading.faults' × (r ≡ refusals.ReadFault)) ⊎ (r ≡ refusals.Memory))
refused_told value_in HasNone limited reading r bytes told refused = elim refused [
  | no_value none ↦ unread_told value_in HasNone limited reading r bytes told none
  | no_answer value read none ↦ inl (are_no_answer value (read_told value_in reading value bytes told read) none)
]

-- ---- one answer

same_value : {A : Type 0} (o : Result A Refusal) (a b : A) → o ≡ Ok a → o ≡ Ok b → a ≡ b
same_value o a b is_a is_b = cc

ok_err : {A : Type 0} (o : Result A Refusal) (a : A) (r : Refusal) → o ≡ Ok a → o ≡ Err r → ⊥
ok_err o a r is_a is_r = cc

err_err : {A : Type 0} (o : Result A Refusal) (r s : Refusal) → o ≡ Err r → o ≡ Err s → r ≡ s
err_err o r s is_r is_s = cc

-- bytes have one refusal, where values have
one_refusal : {A : Type 0} (value_in : List ℕ → Result A Refusal) (HasNone : A → Refusal → Type 0) →
    ((value : A) (r s : Refusal) → HasNone value r → HasNone value s → r ≡ s) →
    (bytes : List ℕ) (r s : Refusal) → AreRefused value_in HasNone bytes r → AreRefused value_in HasNone bytes s → r ≡ s
one_refusal value_in HasNone one bytes r s a b = elim a [
  | are_no_value no_r ↦ elim b [
    | are_no_value no_s ↦ err_err (value_in bytes) r s no_r no_s
    | are_no_answer value is none ↦ absurd (ok_err (value_in bytes) value r is no_r)
  ]
  | are_no_answer value is none ↦ elim b [
    | are_no_value no_s ↦ absurd (ok_err (value_in bytes) value s is no_s)
    | are_no_answer value' is' none' ↦ one value r s none (subst (λ v. HasNone v s) (same_value (value_in bytes) value' value is' is) none')
  ]
]

-- bytes of a value that has an answer are not refused
pub answered_not_refused : {A : Type 0} (value_in : List ℕ → Result A Refusal) (HasNone : A → Refusal → Type 0) →
    (bytes : List ℕ) (r : Refusal) (value : A) → value_in bytes ≡ Ok value → (HasNone value r → ⊥) → AreRefused value_in HasNone bytes r → ⊥
answered_not_refused value_in HasNone bytes r value read has refused = elim refused [
  | are_no_value is ↦ ok_err (value_in bytes) value r read is
  | are_no_answer other is none ↦ has (subst (λ v. HasNone v r) (same_value (value_in bytes) other value is read) none)
]

-- ---- what is said of a source that tells its bytes

-- the one refusal of the bytes, or that reading failed, or that memory ran out
pub refusal_due : {A : Type 0} (value_in : List ℕ → Result A Refusal) (HasNone : A → Refusal → Type 0) →
    ((left rest : Option (List ℕ)) (bytes : List ℕ) → LosesMoreThan 16777216 left rest → left ≡ Some bytes → value_in bytes ≡ Err refusals.TooLong) →
    ((value : A) (r s : Refusal) → HasNone value r → HasNone value s → r ≡ s) →
    (reading : Reading) (bytes : List ℕ) → reading.left ≡ Some bytes → (r s : Refusal) → AreRefused value_in HasNone bytes r →
    IsRefusedFor value_in HasNone reading s → (s ≡ r) ⊎ ((s ≡ refusals.ReadFault) ⊎ (s ≡ refusals.Memory))
refusal_due value_in HasNone limited one reading bytes told r s are refused = elim (refused_told value_in HasNone limited reading s bytes told refused) [
  | inl are' ↦ inl (one_refusal value_in HasNone one bytes s r are' are)
  | inr failed ↦ elim failed [
    | inl fault ↦ inr (inl fault.1)
    | inr memory ↦ inr (inr memory)
  ]
]

-- that memory ran out, where the bytes are a value that has an answer and reading did not fail
pub served_memory : {A : Type 0} (value_in : List ℕ → Result A Refusal) (HasNone : A → Refusal → Type 0) →
    ((left rest : Option (List ℕ)) (bytes : List ℕ) → LosesMoreThan 16777216 left rest → left ≡ Some bytes → value_in bytes ≡ Err refusals.TooLong) →
    (reading : Reading) (bytes : List ℕ) (value : A) → reading.left ≡ Some bytes → value_in bytes ≡ Ok value → (FaultsRose reading.faults reading.faults' → ⊥) →
    (r : Refusal) → (HasNone value r → ⊥) → IsRefusedFor value_in HasNone reading r → r ≡ refusals.Memory
served_memory value_in HasNone limited reading bytes value told read quiet r has refused = elim (refused_told value_in HasNone limited reading r bytes told refused) [
  | inl are ↦ absurd (answered_not_refused value_in HasNone bytes r value read has are)
  | inr failed ↦ elim failed [
    | inl fault ↦ absurd (quiet fault.0)
    | inr memory ↦ memory
  ]
]
