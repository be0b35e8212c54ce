-- Those before the next place are closed up.
use Rattle.cover_merge.proofs.ReplaceLemmas.{IsClosedUp}
use Rattle.cover_merge.proofs.applying.replace_all.Given as goal

abbrev pub invariant-loop-i : goal.invariant-loop-i
invariant-loop-i g l = IsClosedUp l.gaps.places.now l.gaps.place l.fn.items.items l.i l.items.items
