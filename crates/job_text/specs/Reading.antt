-- What a reader answers of a part that has these faults and this value.
use Rattle.std.specs.Prelude.{◌≡◌, List, [], ◌∷◌, Option, Some, None, Result, Ok, Err}
use Rattle.job_text.specs.declared.faults.JobFault.{JobFault}
use Rattle.job_text.specs.declared.faults.TextErr.{TextErr}
use Rattle.job_text.specs.declared.faults.TextErr.TheVariants as errors

-- Faults are listed in the order of reading. Those inside a part count only where the part has none of its own.
infixr 5 ◌▹◌
abbrev pub ◌▹◌ : List JobFault → List JobFault → List JobFault
[] ▹ inner = inner
(f ∷ fs) ▹ inner = f ∷ fs

abbrev pub first : List JobFault → Option JobFault
first [] = None
first (f ∷ fs) = Some f

-- the error is the first of the faults, or want of memory
abbrev pub IsFirstFault : TextErr → List JobFault → Type 0
IsFirstFault errors.Memory faults = Unit {0}
IsFirstFault (errors.Fault f) faults = first faults ≡ Some f

-- A reader gives the value only where there is no fault, else the first fault or want of memory.
abbrev pub GivesOrFaults : {X Y : Type 0} → (X → Y) → Result X TextErr → List JobFault → Y → Type 0
GivesOrFaults see (Ok x) faults value = (faults ≡ []) × (see x ≡ value)
GivesOrFaults see (Err e) faults value = IsFirstFault e faults
