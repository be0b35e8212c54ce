-- The status and the line of each refusal (this project's own).
use Rattle.std.specs.Prelude.{ℕ, List, [], ◌∷◌, length, Option, Some, None, codes, decimal}
use Rattle.job_text.specs.declared.faults.JobFault.{JobFault}
use Rattle.job_text.specs.declared.faults.JobFault.TheVariants.{Shape, Range, UnknownName, DoubleName, TooMany, Clash}
use Rattle.run_report.specs.ReportText.{line}
use Rattle.run_report.specs.declared.causes.Refusal.{Refusal}
use Rattle.run_report.specs.declared.causes.Refusal.TheVariants.{Usage, ReadFault, WriteFault, TooLong, NotJson, Job, NoRoom, KeysOut, CutOff, TableLong, Memory}

-- the status of a refusal
abbrev pub status_of : Refusal → ℕ
status_of Usage = 1
status_of ReadFault = 2
status_of WriteFault = 3
status_of TooLong = 4
status_of NotJson = 4
status_of (Job fault) = 4
status_of (NoRoom vertex) = 5
status_of (KeysOut net) = 6
status_of (CutOff net target) = 7
status_of (TableLong chip table) = 8
status_of Memory = 9

-- the line of a job's fault: its kind, its path, and the count where there are too many
abbrev pub fault_line : JobFault → List ℕ
fault_line (Shape path) = line (codes "bad" ∷ codes "job:" ∷ codes "shape" ∷ path ∷ [])
fault_line (Range path) = line (codes "bad" ∷ codes "job:" ∷ codes "range" ∷ path ∷ [])
fault_line (UnknownName path) = line (codes "bad" ∷ codes "job:" ∷ codes "unknown" ∷ codes "name" ∷ path ∷ [])
fault_line (DoubleName path) = line (codes "bad" ∷ codes "job:" ∷ codes "double" ∷ codes "name" ∷ path ∷ [])
fault_line (TooMany path count) = line (codes "bad" ∷ codes "job:" ∷ codes "too" ∷ codes "many" ∷ path ∷ decimal count ∷ [])
fault_line (Clash path) = line (codes "bad" ∷ codes "job:" ∷ codes "clash" ∷ path ∷ [])

-- the line of a refusal, ended by a line feed; a fault of writing has none
abbrev pub line_of : Refusal → List ℕ
line_of Usage = codes "usage: run, trace, compile, tables, gen N, apps, reinject or check\n"
line_of ReadFault = codes "read fault\n"
line_of WriteFault = []
line_of TooLong = codes "bad job: too long\n"
line_of NotJson = codes "bad job: not json\n"
line_of (Job fault) = fault_line fault
line_of (NoRoom vertex) = line (codes "no" ∷ codes "room:" ∷ vertex ∷ [])
line_of (KeysOut net) = line (codes "keys" ∷ codes "out:" ∷ net ∷ [])
line_of (CutOff net target) = line (codes "cut" ∷ codes "off:" ∷ net ∷ decimal target.x ∷ decimal target.y ∷ [])
line_of (TableLong chip table) = line (codes "table" ∷ codes "long:" ∷ decimal chip.x ∷ decimal chip.y ∷ decimal (length table.entries) ∷ [])
line_of Memory = codes "out of memory\n"

-- the status of an outcome: 0 where there is no refusal
abbrev pub status_at : Option Refusal → ℕ
status_at None = 0
status_at (Some r) = status_of r
