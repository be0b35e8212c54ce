-- One route more.
use Rattle.table_rules.proofs.Common.{ap, joined_blocks, map, others, own_blocks, row_by, rows_by_routes, ◌++◌, ◌∙◌}
use Rattle.table_rules.proofs.JoinTurns.{routes_more}
use Rattle.table_rules.proofs.joining.rows_by_routes.Goals as goal

pub loop-route-preserved : goal.loop-route-preserved
loop-route-preserved c =
    routes_more c.args.routes.now c.loop-route.route-index c.loop-route.rows.items c.loop-route.left.items (rows_by_routes c.args.routes.now c.args.pieces.now) c.loop-route.invariant
    c.route-item.result c.in_ok-behind.behind.items c.in_ok-own.own.items c.in_ok-joined.joined.items c.put_rows.new.rows.items c.loop-route-test.true c.route-item.is
    (c.in_ok-behind.ensures ∙ ap (others c.route-item.result) c.as_slice.ensures.value)
    (c.in_ok-own.ensures ∙ ap (own_blocks c.route-item.result) c.as_slice-in-loop-route.ensures.value)
    (c.in_ok-joined.ensures
    ∙ (ap (λ l. joined_blocks l c.as_slice-in-loop-route-3.result.now) c.as_slice-in-loop-route-2.ensures.value ∙ ap (joined_blocks c.in_ok-behind.behind.items) c.as_slice-in-loop-route-3.ensures.value))
    (c.in_ok-put_rows.ensures ∙ ap (λ l. c.loop-route.rows.items ++ map (row_by c.route-item.result) l) c.as_slice-in-loop-route-4.ensures.value)
