-- From bit to bit, what was put and what is to be put is all.
use Rattle.std.proofs.Common.{◌-◌, arith}
use Rattle.std.proofs.lemmas.Nat.{pow_below}
use Rattle.block_cuts.proofs.Turns.{put_turn, put_all, less_is}
use Rattle.block_cuts.proofs.halves.put_less.Goals as goal

pub loop-n-preserved : goal.loop-n-preserved
loop-n-preserved c = put_turn _ _ _ _ _ _ _ _ c.loop-n-test.true (omega (arith, pow_below (31 - c.loop-n.n) 32 (omega arith))) c.loop-n.invariant c.in_ok-put_half.ensures c.part_to_cut-rest.ensures

pub returns : goal.returns
returns c = less_is c.args.p c.args.e _ _ (put_all c.loop-n.n c.loop-n.rest c.args.e c.loop-n.out.items _ c.loop-n-test.false c.loop-n.invariant)
