use Rattle.std.proofs.Common.{arith, length-drop}
use Rattle.spin_base.proofs.Bytes.{takes_from}
use Rattle.spin_base.proofs.writing.write_all.Goals as goal

pub loop-done-preserved : goal.loop-done-preserved
loop-done-preserved g c = grind (arith, length-drop c.loop-done.done c.args.bytes.now, takes_from _ _ _ _ _ _ c.loop-done.invariant.takes c.in-Ok.ensures.takes)
