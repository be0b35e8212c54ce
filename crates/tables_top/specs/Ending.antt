-- How a call ends (this project's own).
use Rattle.std.specs.Prelude.{◌≡◌, ◌⊎◌, ℕ, ◌<◌, List, Option, Some, None, Result, if◌then◌else◌, codes}
use Rattle.std.specs.List.{flat_map}
use Rattle.spin_base.specs.Outside.{FaultsRose, Takes, TakesProperPrefix}
use Rattle.run_report.specs.declared.causes.Refusal.{Refusal}
use Rattle.run_report.specs.declared.causes.Refusal.TheVariants as refusals
use Rattle.run_report.specs.Refusals.{line_of, status_of}
use Rattle.spin_input.specs.Inputs.{Reading, HasNoInput, IsReadAs, IsUntouched}
use Rattle.spin_input.specs.Kinds.{input_in, input_of}
use Rattle.table_readers.specs.Asking.{asked_faults}
use Rattle.tables_top.specs.Asking.{input_value}
use Rattle.table_text.specs.Texts.{short_lines}
use Rattle.tables_top.specs.declared.inputs.TablesInput.{TablesInput}
use Rattle.table_text.specs.declared.writing.ShortTable.{ShortTable}
use Rattle.tables_top.specs.declared.outcomes.Outcome.{Outcome}
use Rattle.tables_top.specs.Shorter.{AreShorter, has_long_table}

-- which tables are asked for by bytes, or why none are
abbrev pub tables_asked_in : List ℕ → Result TablesInput Refusal
tables_asked_in = input_in (input_of asked_faults input_value)

-- the line where there are words
abbrev pub usage_line : List ℕ
usage_line = codes "usage: no words, and tables as JSON on standard input\n"

-- what a sink had taken and has taken, where it tells that, and its counts of faults
pub record Sending : Type 0 where
  pub sent : Option (List ℕ)
  pub sent' : Option (List ℕ)
  pub faults : ℕ
  pub faults' : ℕ

abbrev pub sent_through : {K : Type 0} → (K → Option (List ℕ)) → (K → ℕ) → K → K → Sending
sent_through sent faults old new = record { sent = sent old; sent' = sent new; faults = faults old; faults' = faults new }

-- A text was written whole, and no byte besides; and the call says what it says then. Or, at a fault of the sink, a proper prefix of
-- it was written, and the call says that.
abbrev pub IsSentOut : Sending → List ℕ → Option Refusal → Option Refusal → Type 0
IsSentOut s text then_said said =
    ((said ≡ then_said) × Takes s.sent text s.sent')
    ⊎ ((said ≡ Some refusals.WriteFault) × TakesProperPrefix s.sent text s.sent' × FaultsRose s.faults s.faults')

-- Why there are no tables, with what was read of the source: reading has its causes, or memory ran out after all was read.
pub data HasNoTables (reading : Reading) (r : Refusal) : Type 0 where
  has_no_input : HasNoInput tables_asked_in reading r → HasNoTables reading r
  has_no_memory : (input : TablesInput) → IsReadAs tables_asked_in reading input → r ≡ refusals.Memory → HasNoTables reading r

-- tables that the source's bytes ask for, and their text
pub record AreMadeTables (reading : Reading) (tables : List ShortTable) (text : List ℕ) : Type 0 where
  pub input : TablesInput
  pub read : IsReadAs tables_asked_in reading input
  pub shorter : AreShorter input.asked.target input.asked.exact input.asked.tables tables
  pub is : text ≡ flat_map short_lines tables

-- the line of a refusal was written, and nothing else is given
pub record IsTold (sending : Sending) (line : List ℕ) (r : Refusal) (o : Outcome) : Type 0 where
  pub none_given : o.tables ≡ None
  pub sent : IsSentOut sending line (Some r) o.refusal

-- How a call ends. There are words, and nothing was read. Or the source's bytes ask for tables, these are shorter ones, and their text was
-- written. Or there is a refusal with its cause, and its line was written; or, where there was no memory for that line, that of want of
-- memory.
pub data EndsTables (words : ℕ) (reading : Reading) (sending : Sending) (o : Outcome) : Type 0 where
  has_words : 0 < words → IsUntouched reading → IsTold sending usage_line refusals.Usage o → EndsTables words reading sending o
  made : words ≡ 0 → (tables : List ShortTable) (text : List ℕ) → AreMadeTables reading tables text → o.tables ≡ Some tables → IsSentOut sending text None o.refusal → EndsTables words reading sending o
  refused : words ≡ 0 → (r : Refusal) → HasNoTables reading r → IsTold sending (line_of r) r o → EndsTables words reading sending o
  no_line : words ≡ 0 → (r : Refusal) → HasNoTables reading r → IsTold sending (line_of refusals.Memory) refusals.Memory o → EndsTables words reading sending o

-- the status of tables: 8 where one is longer than a router's
abbrev pub tables_status : Option (List ShortTable) → ℕ
tables_status None = 0
tables_status (Some tables) = if has_long_table tables then 8 else 0

-- the status of an outcome
abbrev pub outcome_status : Option Refusal → Option (List ShortTable) → ℕ
outcome_status None tables = tables_status tables
outcome_status (Some r) tables = status_of r
