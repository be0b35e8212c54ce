use Rattle.place_fit.proofs.Common.{ap, arith, get_or, get_or_default, pow_mono, pow_more, pow_pos, subst, ◌*◌, ◌+◌, ◌<◌, ◌^◌, ◌∙◌, ◌≡◌, ◌≤◌}
use Rattle.place_fit.proofs.{RoomLaws.IsFound, RoomLaws.none_above, RoomLaws.found_left, RoomLaws.found_right, rooms.Rooms.first_above.Goals.then-index-need-2}
use Rattle.place_fit.proofs.rooms.Rooms.first_above.Goals.{else-index-need-2}
use Rattle.place_fit.proofs.rooms.Rooms.first_above.Goals as goal

pub returns-then-index-need-clause-none : goal.returns-then-index-need-clause-none
returns-then-index-need-clause-none c = grind (arith, pow_pos, get_or, get_or_default, none_above)

pub index-requires-in-loop-step : goal.index-requires-in-loop-step
index-requires-in-loop-step c =
    let r = c.self.inside in
    let up : 2 ^ (c.loop-step.step + 1) ≤ 2 ^ r.levels = pow_mono {j = r.levels} (omega (arith, c.loop-step-test.true)) in
    omega (arith, up, pow_more 2 c.loop-step.step, c.loop-step.invariant.to, c.self.invariant.leaves, c.self.invariant.is_tree.long, r.tree.ok)

pub loop-step-preserved : goal.loop-step-preserved
loop-step-preserved c =
    let r = c.self.inside in
    let t = r.tree.items in
    let n = c.loop-step.node in
    let first = 2 ^ c.loop-step.step in
    let up : 2 ^ (c.loop-step.step + 1) ≤ 2 ^ r.levels = pow_mono {j = r.levels} (omega (arith, c.loop-step-test.true)) in
    let more = pow_more 2 c.loop-step.step in
    let inner : n < r.leaves = omega (arith, up, more, c.loop-step.invariant.to, c.self.invariant.leaves) in
    let twice : n * 2 ≡ 2 * n = omega arith in
    let read : c.index-in-loop-step.result.now ≡ get_or t (2 * n) 0 =
    c.index-in-loop-step.ensures ∙ (ap (λ i. get_or t i c.index-in-loop-step.result.now) twice ∙ get_or_default t (2 * n) c.index-in-loop-step.result.now 0 (omega (arith, inner, c.self.invariant.is_tree.long))) in
    let some = pow_pos c.loop-step.step in
    subst (λ z. IsFound t c.args.need z c.if-index-need-2.node) (omega (arith, more))
    (elim c.if-index-need-2.branch [
      | then-index-need-2 w ↦ subst (IsFound t c.args.need (2 * first)) (omega (arith, w.node-is))
          (found_right r.leaves t c.self.invariant.is_tree c.args.need first n c.loop-step.invariant inner some (omega (arith, read, w.if-index-need-2.true)))
      | else-index-need-2 w ↦ subst (IsFound t c.args.need (2 * first)) (omega (arith, w.node-is))
          (found_left r.leaves t c.self.invariant.is_tree c.args.need first n c.loop-step.invariant inner some (omega (arith, read, w.if-index-need-2.false)))
    ])
