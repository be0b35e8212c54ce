use Rattle.spin_checks.proofs.Common.{Some, ap, length, rules, slice_get-get_or, sym, ◌<◌, ◌∙◌}
use Rattle.spin_checks.proofs.Growing.{plans_more}
use Rattle.spin_checks.proofs.nets.plans_with.Goals as goal

pub loop-i-preserved : goal.loop-i-preserved
loop-i-preserved c =
    let h = c.args.handed in
    let below : c.loop-i.i < length h.trees.now = search rules in
    plans_more h.spots.now h.nets.now h.blocks.now h.trees.now c.loop-i.plans c.push.new.self c.loop-i.i c.get.result.now c.get-in-loop-i.result.now c.index-trees-i.result
    c.in_ok-net_with.field-0 c.loop-i.invariant.0 c.loop-i.invariant.1 c.get.ensures c.get-in-loop-i.ensures
    (slice_get-get_or h.trees.now c.loop-i.i c.index-trees-i.result below ∙ ap Some (sym c.index-trees-i.is)) c.in_ok-net_with.ensures c.in_ok-push.ensures.ok
