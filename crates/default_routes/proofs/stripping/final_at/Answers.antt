-- One entry more.
use Rattle.default_routes.proofs.Common.{ap, entry_of, sym, ◌∙◌}
use Rattle.default_routes.proofs.FinalLemmas.{entries_more}
use Rattle.default_routes.proofs.stripping.final_at.Goals as goal

pub loop-place-preserved : goal.loop-place-preserved
loop-place-preserved c =
    entries_more c.args.at.rows.now c.args.at.places.now c.loop-place.place-index c.index-at-place.result
    c.entry.result c.loop-place.entries c.push.new.self c.args.at.in_range c.loop-place-test.true c.index-at-place.is (c.entry.ensures ∙ ap entry_of (sym c.index-at-place.is))
    c.loop-place.invariant c.in_ok-push.ensures.ok
