use Rattle.net_tables.proofs.Common.{filter, take, turns, ◌++◌, ◌≡◌}
use Rattle.net_tables.proofs.turning.add_turns.Given as goal

-- those of the original blocks that were read were added
abbrev pub invariant-loop-mark : goal.invariant-loop-mark
invariant-loop-mark l = l.kept ≡ l.fn.kept ++ filter turns (take l.mark-index l.list)
