-- What a call makes of an input. For each kind of input there is a function from bytes to values, and what says of a value why
-- it has no answer, or that it can have one (this project's own).
use Rattle.std.specs.Prelude.{◌≡◌, ℕ, List, Option, Some, Result, Ok, Err}
use Rattle.run_report.specs.declared.causes.Refusal.{Refusal}
use Rattle.spin_input.specs.Inputs.{Reading, IsReadAs, HasNoInput}

-- Why a call has no answer, with what was read of the source: there is no value, for which reading has its causes; or all bytes
-- that the source had left are a value, and it has no answer.
pub data IsRefusedFor {A : Type 0} (value_in : List ℕ → Result A Refusal) (HasNone : A → Refusal → Type 0) (reading : Reading) (r : Refusal) : Type 0 where
  no_value : HasNoInput value_in reading r → IsRefusedFor value_in HasNone reading r
  no_answer : (value : A) → IsReadAs value_in reading value → HasNone value r → IsRefusedFor value_in HasNone reading r

-- why bytes have no answer: they are no value, or one without an answer
pub data AreRefused {A : Type 0} (value_in : List ℕ → Result A Refusal) (HasNone : A → Refusal → Type 0) (bytes : List ℕ) (r : Refusal) : Type 0 where
  are_no_value : value_in bytes ≡ Err r → AreRefused value_in HasNone bytes r
  are_no_answer : (value : A) → value_in bytes ≡ Ok value → HasNone value r → AreRefused value_in HasNone bytes r

-- the source tells the bytes of a value that can have an answer
pub record TellsAnswerable {A : Type 0} (value_in : List ℕ → Result A Refusal) (CanHave : A → Type 0) (left : Option (List ℕ)) : Type 0 where
  pub bytes : List ℕ
  pub told : left ≡ Some bytes
  pub value : A
  pub read : value_in bytes ≡ Ok value
  pub can : CanHave value
