-- Its items are the list's.
use Rattle.table_readers.specs.Asking.{rows_faults, rows_value}
use Rattle.table_readers.proofs.asking.rows_in.Goals as goal

pub returns-clause-read : goal.returns-clause-read
unfolding rows_faults rows_value
returns-clause-read c = rw (c.in_ok-items.ensures.read.0, ← c.in_ok-items.ensures.read.1) c.each_item.ensures.read
