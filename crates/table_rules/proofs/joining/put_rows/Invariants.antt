-- The blocks that were read as rows, behind the rows before.
use Rattle.table_rules.proofs.Common.{map, row_by, take, ◌++◌, ◌≡◌}
use Rattle.table_rules.proofs.joining.put_rows.Given as goal

abbrev pub invariant-loop-block : goal.invariant-loop-block
invariant-loop-block l = l.rows.items ≡ l.fn.rows.items ++ map (row_by l.route) (take l.block-index l.blocks)
