-- The table is sound where no row is badly placed.
use Rattle.std.proofs.Common.{refl, arith}
use borrow.Author.Count.{below_more}
use Rattle.spin_base.proofs.Tests.{answers_no, fails}
use Rattle.tern_word.specs.{SoundTable.IsSound, Placed.IsWellPlaced}
use Rattle.tern_word.proofs.Placing.{placed_from_sound, sound_from_placed}
use Rattle.tern_word.proofs.soundness.all_well_placed.Goals as goal

pub returns-then-not-is_well_placed : goal.returns-then-not-is_well_placed
returns-then-not-is_well_placed c =
    answers_no (IsSound c.args.rows.now)
    (λ sound. fails (IsWellPlaced c.args.rows.now c.loop-at.at) c.is_well_placed.result c.is_well_placed.ensures c.if-not-is_well_placed.true (placed_from_sound c.args.rows.now sound c.loop-at.at c.loop-at-test.true))

pub loop-at-preserved : goal.loop-at-preserved
loop-at-preserved c = below_more (IsWellPlaced c.args.rows.now) c.loop-at.at c.loop-at.invariant (c.is_well_placed.ensures.0 c.if-not-is_well_placed.false)

pub returns : goal.returns
returns c = (λ _. sound_from_placed c.args.rows.now (λ at inside. c.loop-at.invariant at (omega arith)), λ _. refl)
