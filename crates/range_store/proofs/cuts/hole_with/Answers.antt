use Rattle.range_store.proofs.Common.{Hole, arith, get_or, slice_get-get_or, ◌-◌}
use Rattle.range_store.proofs.{HolePlaces.has_from, RunLemmas.end_below, RunLemmas.some_len, Beginnings.before_all, Beginnings.beyond}
use Rattle.range_store.proofs.cuts.hole_with.Goals as goal

abbrev none : Hole
none = record { place = 0; len = 0 }

pub overflow_add-hole : goal.overflow_add-hole
overflow_add-hole c = grind (arith, end_below)

pub returns-then-count-eq0-clause-none : goal.returns-then-count-eq0-clause-none
returns-then-count-eq0-clause-none c = grind (arith, before_all, some_len)

pub returns-then-saturating_add-hole-clause-at : goal.returns-then-saturating_add-hole-clause-at
returns-then-saturating_add-hole-clause-at c = grind (arith, slice_get-get_or, get_or, end_below, has_from)

pub returns-else-saturating_add-hole-clause-none : goal.returns-else-saturating_add-hole-clause-none
returns-else-saturating_add-hole-clause-none c = grind (arith, slice_get-get_or, get_or, beyond, some_len)
