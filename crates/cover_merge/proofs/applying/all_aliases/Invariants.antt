-- So far the aliases of the rows passed.
use Rattle.cover_merge.proofs.Common.{aliases_at, take, ◌≡◌}
use Rattle.cover_merge.proofs.applying.all_aliases.Given as goal

abbrev pub invariant-loop-s : goal.invariant-loop-s
invariant-loop-s l = l.aliases.items ≡ aliases_at l.rows (take l.s-index l.places)
