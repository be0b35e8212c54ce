use Rattle.link_detours.proofs.Common.{arith, bit_at-trailing_zeros, inside_parts, trailing_zeros, w64, ◌<◌}
use Rattle.link_detours.proofs.Naming.{still, was, fewer, spreading_more}
use Rattle.link_detours.proofs.sets.spread.Goals as goal

pub loop-left-smaller-then-x-width : goal.loop-left-smaller-then-x-width
loop-left-smaller-then-x-width c =
    let low = bit_at-trailing_zeros w64 c.loop-left.left (omega (arith, c.loop-left-test.true)) c.loop-left.auto.left-fits.fits in
    fewer c.loop-left.left (trailing_zeros w64 c.loop-left.left) low.0 low.1

pub loop-left-smaller : goal.loop-left-smaller
loop-left-smaller c =
    let low = bit_at-trailing_zeros w64 c.loop-left.left (omega (arith, c.loop-left-test.true)) c.loop-left.auto.left-fits.fits in
    fewer c.loop-left.left (trailing_zeros w64 c.loop-left.left) low.0 low.1

pub loop-left-preserved-then-x-width : goal.loop-left-preserved-then-x-width
loop-left-preserved-then-x-width c =
    let low = bit_at-trailing_zeros w64 c.loop-left.left (omega (arith, c.loop-left-test.true)) c.loop-left.auto.left-fits.fits in
    let x = trailing_zeros w64 c.loop-left.left in
    let within : x < c.args.front.ground.machine.now.width = omega (arith, c.if-x-width.true, c.from-width.ensures, c.width.ensures.value) in
    spreading_more c.loop-left.left x low.0 low.1 c.args.front.ground.machine.now c.args.next.now c.loop-left.next c.loop-left.grown c.width.ensures.size.width_to_64 c.loop-left.invariant
    c.spread_column-grown.new.next c.spread_column-grown.result within (rw (← c.requires.same) at c.spread_column-grown.ensures)

pub loop-left-preserved : goal.loop-left-preserved
loop-left-preserved c = grind (arith, bit_at-trailing_zeros w64 c.loop-left.left (omega (arith, c.loop-left-test.true)) c.loop-left.auto.left-fits.fits, inside_parts, still, was)
