-- One row more has the mask, and a key above those before.
use Rattle.default_routes.proofs.Common.{Row, ap, sym, ◌∙◌}
use Rattle.default_routes.proofs.StripLemmas.{ascends_more}
use Rattle.default_routes.proofs.stripping.keys_ascend.Goals as goal

pub loop-row-preserved : goal.loop-row-preserved
loop-row-preserved c =
    ascends_more c.args.rows.now c.loop-row.row-index c.row-item.result c.loop-row.least c.args.mask c.from-key.result c.loop-row-test.true
    (c.from-key.ensures ∙ ap (λ (r : Row). r.block.key) c.row-item.is) (ap (λ (r : Row). r.block.mask) (sym c.row-item.is) ∙ c.if-row-mask.false)
    c.if-key-least.false c.loop-row.invariant.0 c.loop-row.invariant.1
