use Rattle.std.proofs.Common.{◌≡◌, ◌-◌, None}
use Rattle.table_load.specs.Reading.{read_tables}
use Rattle.table_load.proofs.Numbers.{with_front}
use Rattle.table_load.proofs.reads.tables_at.Given as goal

-- the tables so far, and what is read of the others, are what is read of all
abbrev pub invariant-loop : goal.invariant-loop
invariant-loop l = with_front l.tables.items (read_tables l.width l.height (l.count - l.counter) l.before l.rest) ≡ read_tables l.width l.height l.count None l.bytes
