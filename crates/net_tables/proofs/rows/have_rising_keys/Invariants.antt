use Rattle.net_tables.proofs.Common.{All, AllPairs, IsRowNotAfter, row_of_mark, take}
use Rattle.net_tables.proofs.Rising.{IsBelow}
use Rattle.net_tables.proofs.rows.have_rising_keys.Given as goal

-- the marks that were looked at are in order, care for these bits, and have no key above the last
abbrev pub invariant-loop-mark : goal.invariant-loop-mark
invariant-loop-mark l = record {
  in_order : AllPairs (λ a b. IsRowNotAfter (row_of_mark a) (row_of_mark b)) (take l.mark-index l.marks);
  below : All (IsBelow l.mask l.least) (take l.mark-index l.marks);
}
