-- Which refusal an error is told as (this project's own). Want of memory is told where memory ran out, and nowhere else.
use Rattle.std.specs.Prelude.{◌≡◌, ◌⊎◌, Result, Err}
use Rattle.spin_base.specs.declared.reading.ReadErr.{ReadErr}
use Rattle.spin_base.specs.declared.reading.ReadErr.TheVariants as reads
use Rattle.job_text.specs.declared.faults.TextErr.{TextErr}
use Rattle.job_text.specs.declared.faults.TextErr.TheVariants as texts
use Rattle.job_text.specs.declared.parses.ParseErr.{ParseErr}
use Rattle.job_text.specs.declared.parses.ParseErr.TheVariants as parses
use Rattle.run_report.specs.declared.causes.Refusal.{Refusal}
use Rattle.run_report.specs.declared.causes.Refusal.TheVariants as refusals

-- of a source that was not read: it failed, or gave too many bytes
abbrev pub unread : ReadErr → Refusal
unread reads.Fault = refusals.ReadFault
unread reads.TooLong = refusals.TooLong
unread reads.OutOfMemory = refusals.Memory

-- of bytes that are no JSON
abbrev pub unparsed : ParseErr → Refusal
unparsed parses.NotJson = refusals.NotJson
unparsed parses.Memory = refusals.Memory

-- of a value with a fault
abbrev pub unfit : TextErr → Refusal
unfit (texts.Fault fault) = refusals.Job fault
unfit texts.Memory = refusals.Memory

-- an answer is the one that is wanted, or the refusal for want of memory
abbrev pub IsOrWantsMemory : {A : Type 0} → Result A Refusal → Result A Refusal → Type 0
IsOrWantsMemory wanted result = (result ≡ wanted) ⊎ (result ≡ Err refusals.Memory)
