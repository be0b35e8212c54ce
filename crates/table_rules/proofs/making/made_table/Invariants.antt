-- What is made of the rows that are left is made of all; and the rows fit the room that is used.
use Rattle.table_rules.proofs.Common.{HasTooManyPieces, IsTableFrom, IsTableMadeOf, List, Row, [], drop, length, row_blocks, take, ◌+◌, ◌≡◌, ◌≤◌}
use Rattle.table_rules.proofs.making.made_table.Given as goal

abbrev pub invariant-loop-row : goal.invariant-loop-row
invariant-loop-row l = record {
  blocks : l.blocks.items ≡ row_blocks (take l.row-index l.given);
  goes_on : (table : List Row) → IsTableFrom l.left (take l.row-index l.given) l.rows.items (drop l.row-index l.given) table → IsTableMadeOf l.room l.given table;
  too_many : HasTooManyPieces l.left (take l.row-index l.given) (drop l.row-index l.given) → HasTooManyPieces l.room [] l.given;
  few : length l.rows.items + l.left ≤ l.room;
}
