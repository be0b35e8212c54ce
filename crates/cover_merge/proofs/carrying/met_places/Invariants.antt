-- So far the places passed of rows of which the block meets an alias.
use Rattle.cover_merge.proofs.Common.{AreThose, Misses, Row, get_or}
use Rattle.cover_merge.proofs.carrying.met_places.Given as goal

abbrev pub invariant-loop-s : goal.invariant-loop-s
invariant-loop-s l = AreThose (λ s. (d : Row) → Misses l.merge.block (get_or l.rows s d) → ⊥) (λ s. (d : Row) → Misses l.merge.block (get_or l.rows s d)) l.s l.met.items
