use Rattle.place_fit.proofs.Common.{arith, one_shl, slice_get, slice_get_within, ℕ, ◌%◌, ◌*◌, ◌^◌, ◌≡◌, ◌≤◌}
use Rattle.place_fit.proofs.{CurveLaws.at_place, CurveLaws.inside_at, boards.Board.place_of.Goals.else-chip-side-via-then-chip-side+else-chip-side-2}
use Rattle.place_fit.proofs.boards.Board.place_of.Goals.{else-chip-side-via-else-chip-side}
use Rattle.place_fit.proofs.boards.Board.place_of.Goals as goal

side : (k : ℕ) → k ≤ 6 → 1 * 2 ^ k % 256 ≡ 2 ^ k
side k small = one_shl k 8 (omega (arith, small))

pub returns-then-chip-side-2-clause-there : goal.returns-then-chip-side-2-clause-there
returns-then-chip-side-2-clause-there c = grind (arith, side, slice_get, at_place)

pub returns-then-chip-side-2-clause-within : goal.returns-then-chip-side-2-clause-within
returns-then-chip-side-2-clause-within c = slice_get_within c.args.self.now.chips c.place_on_curve.result c.args.chip (returns-then-chip-side-2-clause-there c)

pub returns-else-chip-side-clause-none : goal.returns-else-chip-side-clause-none
returns-else-chip-side-clause-none c q at = grind (arith, side, inside_at, slice_get, else-chip-side-via-then-chip-side+else-chip-side-2, else-chip-side-via-else-chip-side)
