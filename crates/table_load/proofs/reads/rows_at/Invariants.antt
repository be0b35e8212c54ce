use Rattle.std.proofs.Common.{◌≡◌, ◌-◌}
use Rattle.table_load.specs.Reading.{read_rows}
use Rattle.table_load.proofs.Numbers.{with_front}
use Rattle.table_load.proofs.reads.rows_at.Given as goal

-- the rows so far, and what is read of the others, are what is read of all
abbrev pub invariant-loop : goal.invariant-loop
invariant-loop l = with_front l.rows.items (read_rows (l.count - l.counter) l.rest) ≡ read_rows l.count l.bytes
