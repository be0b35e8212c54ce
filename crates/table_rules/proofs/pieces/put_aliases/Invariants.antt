-- The aliases that were read, behind the pieces before.
use Rattle.table_rules.proofs.Common.{Alias, map, row_by, take, ◌++◌, ◌≡◌}
use Rattle.table_rules.proofs.pieces.put_aliases.Given as goal

abbrev pub invariant-loop-alias : goal.invariant-loop-alias
invariant-loop-alias l = l.pieces.items ≡ l.fn.pieces.items ++ map (λ (a : Alias). row_by l.row.route a.block) (take l.alias-index l.alias-items)
