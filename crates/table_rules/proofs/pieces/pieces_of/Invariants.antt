-- The pieces of the rows that were read.
use Rattle.table_rules.proofs.Common.{pieces_of, take, ◌≡◌}
use Rattle.table_rules.proofs.pieces.pieces_of.Given as goal

abbrev pub invariant-loop-row : goal.invariant-loop-row
invariant-loop-row l = l.pieces.items ≡ pieces_of (take l.row-index l.rows)
