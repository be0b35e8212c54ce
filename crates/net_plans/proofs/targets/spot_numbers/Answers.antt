use Rattle.net_plans.proofs.Common.{AreNumbersOf, List, Spot, [], ap, get_or_from_slice_get, map_more_at, nowhere, same_chip, same_spot, slice_index_or, spot_numbered, subst, sym, take, ℕ, ◌++◌, ◌∙◌}
use Rattle.net_plans.proofs.Common.{◌∷◌}
use Rattle.net_plans.proofs.TargetLaws.{cores_of, numbers_more}
use Rattle.net_plans.proofs.targets.spot_numbers.Goals as goal

pub loop-i-preserved : goal.loop-i-preserved
loop-i-preserved c =
    let v : ℕ = c.get-vertex.result.now in
    let s : Spot = c.get.result.now in
    let at = get_or_from_slice_get c.args.targets.spots.now v s nowhere c.get.ensures in
    let more = map_more_at (λ (w : ℕ). slice_index_or c.args.targets.spots.now w nowhere) c.args.targets.vertices.now c.loop-i.i v c.get-vertex.ensures in
    let n = c.spot_number.ensures in
    let back = same_spot (spot_numbered c.spot_number.result) s (same_chip (spot_numbered c.spot_number.result).chip s.chip n.x_back n.y_back) n.core_back in
    subst (λ (ss : List Spot). AreNumbersOf ss c.push.new.self.items)
    (ap (λ (x : Spot). cores_of c.args.targets.spots.now (take c.loop-i.i c.args.targets.vertices.now) ++ x ∷ []) (sym at) ∙ sym more)
    (numbers_more _ c.loop-i.numbers.items c.push.new.self.items s _ c.loop-i.invariant c.spot_number.ensures.value back c.in_ok-push.ensures.items)
