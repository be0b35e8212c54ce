-- The rivals of each row so far are found.
use Rattle.cover_merge.proofs.Common.{AreRivalsAt, List, Rival, get_or, length, ℕ, ◌<◌, ◌≡◌}
use Rattle.cover_merge.proofs.rivals.rivals_of.Given as goal

abbrev pub invariant-loop-s : goal.invariant-loop-s
invariant-loop-s l = record {
  many : length l.of.items ≡ l.s;
  each : (k : ℕ) (d : List Rival) → k < l.s → AreRivalsAt l.rows l.numbers k (get_or l.of.items k d);
}
