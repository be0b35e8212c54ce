-- Each turn merges one more block.
use Rattle.std.proofs.Common.{◌≡◌, sym, ap, ◌∙◌, subst}
use Rattle.tern_word.specs.Ternary.{merge_of, merge_two, IsMergeOf}
use Rattle.tern_word.proofs.BlockLaws.{merge_of-is_merge, merge_of-first, merge_of-more, merge_of-all}
use Rattle.tern_word.proofs.blocks.merge_of.Goals as goal

pub loop-b-init : goal.loop-b-init
loop-b-init c = merge_of-first c.args.blocks.now c.index-blocks-0.result c.requires c.index-blocks-0.is

pub loop-b-preserved : goal.loop-b-preserved
loop-b-preserved c = c.merge_two-merged.ensures ∙ ap (λ m. merge_two m c.b-item.result) c.loop-b.invariant ∙ merge_of-more c.args.blocks.now c.loop-b.b-index c.b-item.result c.loop-b-test.true c.b-item.is

pub returns-clause-wants : goal.returns-clause-wants
returns-clause-wants c =
    let value : c.loop-b.merged ≡ merge_of c.args.blocks.now = c.loop-b.invariant ∙ merge_of-all c.args.blocks.now c.loop-b.b-index c.loop-b-test.false in
    subst (IsMergeOf c.args.blocks.now) (sym value) (merge_of-is_merge c.args.blocks.now c.requires)

pub returns-clause-value : goal.returns-clause-value
returns-clause-value c = c.loop-b.invariant ∙ merge_of-all c.args.blocks.now c.loop-b.b-index c.loop-b-test.false
