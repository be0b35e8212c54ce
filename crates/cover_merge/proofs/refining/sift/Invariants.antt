-- The places that are left; those from `i` on pass the up-check, and those before stand as they did.
use Rattle.cover_merge.proofs.Common.{Block, IsOneRoute, LeadsWithin, PassesUp, generality, get_or, length, merged_block, place_for, take, ℕ, ◌<◌, ◌≡◌, ◌≤◌}
use Rattle.cover_merge.proofs.refining.sift.Given as goal

abbrev pub invariant-loop-i : goal.invariant-loop-i
invariant-loop-i l = let now = l.set.items in record {
  within : l.i ≤ length now;
  fewer : length now ≤ length l.fn.set.items;
  set : IsOneRoute l.rows now;
  some : 0 < length now;
  merge : l.merged ≡ merged_block l.rows now;
  before : take l.i now ≡ take l.i l.fn.set.items;
  behind : (k : ℕ) → l.i ≤ k → k < length now → PassesUp l.rows now (get_or now k 0) (place_for l.rows (generality l.merged));
  leads : (outer : Block) (low : ℕ) → LeadsWithin l.rows outer low l.fn.set.items now;
}

abbrev pub decreases-loop-i : goal.decreases-loop-i
decreases-loop-i l = l.i
