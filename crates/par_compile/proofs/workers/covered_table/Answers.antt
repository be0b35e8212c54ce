use Rattle.par_compile.proofs.Common.{AreApart, arith, subst, sym}
use Rattle.par_compile.proofs.workers.covered_table.Goals as goal

pub shorten-requires-clause-sound : goal.shorten-requires-clause-sound
shorten-requires-clause-sound c = c.in_ok-table.ensures.sound (subst AreApart (sym c.as_slice.ensures) c.args.blocks.apart)

pub returns : goal.returns
returns c = grind arith
