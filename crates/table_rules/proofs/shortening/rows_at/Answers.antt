-- One row more.
use Rattle.table_rules.proofs.Common.{ap, routed, sym, ◌∙◌}
use Rattle.table_rules.proofs.Turns.{places_more}
use Rattle.table_rules.proofs.shortening.rows_at.Goals as goal

pub loop-place-preserved : goal.loop-place-preserved
loop-place-preserved c =
    places_more c.args.at.rows.now c.args.at.places.now c.loop-place.place-index c.index-at-place.result c.routed.result c.loop-place.new c.push.new.self c.args.at.in_range c.loop-place-test.true
    c.index-at-place.is (c.routed.ensures ∙ ap routed (sym c.index-at-place.is)) c.loop-place.invariant c.in_ok-push.ensures.ok
