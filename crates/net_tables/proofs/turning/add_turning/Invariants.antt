use Rattle.net_tables.proofs.Parting.{IsAddedTo}
use Rattle.net_tables.proofs.turning.add_turning.Given as goal

-- the lists up to this place were added
abbrev pub invariant-loop-i : goal.invariant-loop-i
invariant-loop-i l = IsAddedTo l.lists l.fn.kept.items l.kept.items l.i
