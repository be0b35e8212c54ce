-- What reading a source gives. For each kind of input there is a function from bytes to the value that they are, or to the one
-- refusal that they have (this project's own).
use Rattle.std.specs.Prelude.{◌≡◌, ℕ, List, Option, Result, Ok, Err}
use Rattle.spin_base.specs.Outside.{FaultsRose, GivesAll, LosesAtMost, LosesFront, LosesMoreThan}
use Rattle.run_report.specs.declared.causes.Refusal.{Refusal}
use Rattle.run_report.specs.declared.causes.Refusal.TheVariants as refusals

-- A source before and after a call: the bytes that it had left and has left, where it tells them, and its counts of faults.
pub record Reading : Type 0 where
  pub left : Option (List ℕ)
  pub rest : Option (List ℕ)
  pub faults : ℕ
  pub faults' : ℕ

-- a source before and after a call, by what tells its bytes and what counts its faults
abbrev pub reading_of : {S : Type 0} → (S → Option (List ℕ)) → (S → ℕ) → S → S → Reading
reading_of left faults old new = record {
  left = left old;
  rest = left new;
  faults = faults old;
  faults' = faults new;
}

-- nothing was read
abbrev pub IsUntouched : Reading → Type 0
IsUntouched r = (r.rest ≡ r.left) × (r.faults' ≡ r.faults)

-- what the source lost it gave, from the front
abbrev pub IsReadInPart : Reading → Type 0
IsReadInPart r = LosesFront r.left r.rest

-- no read failed
abbrev pub HasNoFault : Reading → Type 0
HasNoFault r = r.faults' ≡ r.faults

-- The source gave all bytes that it had left, to its end, no read failed, and they are this value.
pub record IsReadAs {A : Type 0} (value_in : List ℕ → Result A Refusal) (reading : Reading) (value : A) : Type 0 where
  pub bytes : List ℕ
  pub all : GivesAll reading.left bytes reading.rest
  pub no_fault : HasNoFault reading
  pub is : value_in bytes ≡ Ok value

-- Why there is no value, and what was read: a read failed, which the count of faults shows; or none failed, and the source gave
-- more than 16,777,216 bytes; or it gave all bytes that it had left, and they have this refusal; or memory ran out before it had
-- given more than 16,777,216.
pub data HasNoInput {A : Type 0} (value_in : List ℕ → Result A Refusal) (reading : Reading) (r : Refusal) : Type 0 where
  read_fault : IsReadInPart reading → FaultsRose reading.faults reading.faults' → r ≡ refusals.ReadFault → HasNoInput value_in reading r
  too_long : LosesMoreThan 16777216 reading.left reading.rest → HasNoFault reading → r ≡ refusals.TooLong → HasNoInput value_in reading r
  not_read_as : (bytes : List ℕ) → GivesAll reading.left bytes reading.rest → HasNoFault reading → value_in bytes ≡ Err r → HasNoInput value_in reading r
  no_memory : LosesAtMost 16777216 reading.left reading.rest → HasNoFault reading → r ≡ refusals.Memory → HasNoInput value_in reading r
