-- The lines so far are written.
use Rattle.std.proofs.Common.{◌≡◌, ◌++◌, take}
use Rattle.std.specs.List.{flat_map}
use Rattle.table_text.specs.Texts.{short_lines}
use Rattle.table_text.proofs.writing.put_shorts.Given as goal

abbrev pub invariant-loop-table : goal.invariant-loop-table
invariant-loop-table l = l.text.items ≡ l.fn.text.items ++ flat_map short_lines (take l.table-index l.tables)
