-- The half is a block, and the one that is meant.
use Rattle.std.proofs.Common.{refl}
use Rattle.tern_word.proofs.BlockLaws.{same_block}
use Rattle.block_cuts.specs.{Cuts.narrow, NarrowFits.narrow_within, NarrowFits.narrow_small}
use Rattle.block_cuts.proofs.halves.narrow.Goals as goal

pub invariant_of-result : goal.invariant_of-result
invariant_of-result c = record { within = narrow_within c.args.p c.args.e c.args.bit c.args.value; small = narrow_small c.args.p c.args.e c.args.bit }

pub returns : goal.returns
unfolding narrow
returns c = same_block _ _ refl refl
