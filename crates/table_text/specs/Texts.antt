-- The text of shorter tables, line by line (this project's own).
use Rattle.std.specs.Prelude.{ℕ, List, [], ◌∷◌, ◌++◌, length, if◌then◌else◌, codes, decimal}
use Rattle.run_report.specs.ReportText.{line, table_lines}
use Rattle.table_text.specs.declared.writing.ShortTable.{ShortTable}

-- where a table is as it was given, its chip, and how many rows it has
abbrev pub kept_lines : ShortTable → List ℕ
kept_lines t = if t.kept then line (codes "kept" ∷ decimal t.table.chip.x ∷ decimal t.table.chip.y ∷ decimal (length t.table.entries) ∷ []) else []

-- the lines of a table
abbrev pub short_lines : ShortTable → List ℕ
short_lines t = kept_lines t ++ table_lines t.table
