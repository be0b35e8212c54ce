-- What a call writes (this project's own).
use Rattle.std.specs.Prelude.{◌≡◌, ◌⊎◌, ℕ, List, Option, Some}
use Rattle.spin_base.specs.Outside.{FaultsRose, Takes, TakesProperPrefix}
use Rattle.run_report.specs.declared.causes.Refusal.{Refusal}
use Rattle.run_report.specs.declared.causes.Refusal.TheVariants as refusals
use Rattle.run_report.specs.declared.causes.Refusal.TheVariants.{WriteFault}

-- A sink before and after a call: what it had taken and has taken, where it tells that, and its counts of faults.
pub record Writing : Type 0 where
  pub written : Option (List ℕ)
  pub written' : Option (List ℕ)
  pub faults : ℕ
  pub faults' : ℕ

-- a sink before and after a call, by what tells what it took and what counts its faults
abbrev pub writing_of : {K : Type 0} → (K → Option (List ℕ)) → (K → ℕ) → K → K → Writing
writing_of written faults old new = record {
  written = written old;
  written' = written new;
  faults = faults old;
  faults' = faults new;
}

-- A text was written whole, and no byte besides; and the call says what it says then. Or, at a fault of the sink, a proper
-- prefix of it was written, and the call says that.
abbrev pub IsWritten : Writing → List ℕ → Option Refusal → Option Refusal → Type 0
IsWritten w text then_said said =
    ((said ≡ then_said) × Takes w.written text w.written')
    ⊎ ((said ≡ Some WriteFault) × TakesProperPrefix w.written text w.written' × FaultsRose w.faults w.faults')

-- The refusal that is told where there is no memory for the line of this one. The lines of words that are no command, and of a fault
-- of reading, always are the same, and stand there. In place of all others want of memory is told.
abbrev pub told_unmade : Refusal → Refusal
told_unmade refusals.Usage = refusals.Usage
told_unmade refusals.ReadFault = refusals.ReadFault
told_unmade refusals.WriteFault = refusals.Memory
told_unmade refusals.TooLong = refusals.Memory
told_unmade refusals.NotJson = refusals.Memory
told_unmade (refusals.Job fault) = refusals.Memory
told_unmade (refusals.NoRoom vertex) = refusals.Memory
told_unmade (refusals.KeysOut net) = refusals.Memory
told_unmade (refusals.CutOff net target) = refusals.Memory
told_unmade (refusals.TableLong chip table) = refusals.Memory
told_unmade refusals.Memory = refusals.Memory
