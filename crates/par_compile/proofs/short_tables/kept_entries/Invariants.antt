use Rattle.par_compile.proofs.Common.{kept_entries, take, ◌≡◌}
use Rattle.par_compile.proofs.short_tables.kept_entries.Given as goal

-- the entries of the original blocks that were read
abbrev pub invariant-loop-mark : goal.invariant-loop-mark
invariant-loop-mark l = l.entries ≡ kept_entries (take l.mark-index l.marks)
