use Rattle.app_loads.proofs.Common.{FillsFrom, Some, unused}
use Rattle.app_loads.proofs.rows.clear_entries.Given as goal

-- so many entries are unused
abbrev pub invariant-loop-at : goal.invariant-loop-at
invariant-loop-at l = FillsFrom l.first l.at (λ k. Some unused) l.fn.table l.table
