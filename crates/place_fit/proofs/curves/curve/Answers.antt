use Rattle.place_fit.proofs.Common.{arith, pow_mono, pow_more}
use Rattle.place_fit.proofs.CurveLaws.{IsIn, hilbert-zero, hilbert-next, hilbert_inside}
use Rattle.place_fit.proofs.curves.curve.Goals as goal

pub loop-level-init : goal.loop-level-init
loop-level-init c = grind (arith, hilbert-zero)

pub invariant_of-square : goal.invariant_of-square
invariant_of-square c = grind (arith, pow_mono, IsIn, hilbert_inside)

pub overflow_mul-side : goal.overflow_mul-side
overflow_mul-side c = grind (arith, pow_mono)

pub loop-level-preserved : goal.loop-level-preserved
loop-level-preserved c = grind (arith, hilbert-next c.loop-level.level, pow_more 2 c.loop-level.level)
