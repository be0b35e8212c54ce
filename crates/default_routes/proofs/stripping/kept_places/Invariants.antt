-- The kept places of the rows passed, the last first in the list.
use Rattle.default_routes.proofs.Common.{All, KeptFrom, length, reverse, ◌<◌, ◌≤◌}
use Rattle.default_routes.proofs.stripping.kept_places.Given as goal

abbrev pub invariant-loop-i : goal.invariant-loop-i
invariant-loop-i l = record {
  within : l.i ≤ length l.sound.rows.now;
  in_range : All (λ s. s < length l.sound.rows.now) l.kept.items;
  kept : KeptFrom l.sound.rows.now l.i (reverse l.kept.items);
}

abbrev pub decreases-loop-i : goal.decreases-loop-i
decreases-loop-i l = l.i
