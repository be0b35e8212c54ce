-- The code's mask and key are the definition's, and so are their two facts.
use Rattle.tern_word.specs.{MergeFits.merge_mask, MergeFits.merge_key, MergeFits.merge_within, MergeFits.merge_small, Ternary.merge_two}
use Rattle.tern_word.proofs.BlockLaws.{one_block}
use Rattle.tern_word.proofs.blocks.merge_two.Goals as goal

pub invariant_of-result : goal.invariant_of-result
invariant_of-result c = record { within = merge_within c.args.a c.args.b; small = merge_small c.args.a c.args.b }

pub returns : goal.returns
unfolding merge_two
returns c = one_block (merge_key c.args.a c.args.b) (merge_mask c.args.a c.args.b) _ _ _ _
