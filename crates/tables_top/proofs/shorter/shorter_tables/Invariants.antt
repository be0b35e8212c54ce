-- The tables so far, beside those that were read.
use Rattle.std.proofs.Common.{take}
use Rattle.tables_top.specs.Shorter.{AreShorter}
use Rattle.tables_top.proofs.shorter.shorter_tables.Given as goal

abbrev pub invariant-loop-table : goal.invariant-loop-table
invariant-loop-table l = AreShorter l.target l.exact (take l.table-index l.tables) l.shorter
