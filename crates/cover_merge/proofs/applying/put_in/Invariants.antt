-- Those before the next place are closed up.
use Rattle.cover_merge.proofs.ReplaceLemmas.{IsClosedUp}
use Rattle.cover_merge.proofs.applying.put_in.Given as goal

abbrev pub invariant-loop-i : goal.invariant-loop-i
invariant-loop-i l = IsClosedUp l.gaps.places.now l.gaps.place l.fn.rows.items l.i l.rows.items
