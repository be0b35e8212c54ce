use Rattle.chip_node.proofs.Common.{All-set, IsEndOf, IsIdleAt, arith, get_or, length, refl, sym, ℕ, ◌+◌, ◌<◌}
use Rattle.chip_node.proofs.{Banking.vertex_idle, Banking.vertex_there, Flows.goes_none, Flows.ready_bank_on, Flows.stays_goes, GoingRound.gone_more, Looking.end_written, Looking.lacks_at}
use Rattle.chip_node.proofs.{Placing.got_goes, Stays.stays_on}
use Rattle.chip_node.proofs.nodes.CoreBank.collect.Goals as goal

pub returns-in-Some-clause-acts : goal.returns-in-Some-clause-acts
returns-in-Some-clause-acts g c =
    let b = c.args.self.now in
    let m = c.loop-step.hold in
    let v = c.index-vertex.result.now in
    let at = c.place_after.result in
    let below : at < length b.vertices.items = omega (arith, b.vertices.ok.0) in
    let there = vertex_there c.args.around.links.now b m at v c.loop-step.invariant.ready below c.index-vertex.ensures in
    let old = c.index_mut.result.now in
    let new = c.take.new.self in
    let w = end_written m.ends.items (b.cores + v) (b.cores + v) old new refl there c.index_mut.ensures.value in (
      _,
      record { vertex = v; copy = c.in-Some.copy; has = (at, below, sym c.index-vertex.ensures); are = refl },
      stays_goes c.args.around.capacity c.args.around.patience c.args.hold.now m _ _ c.loop-step.invariant.stays
          (got_goes c.args.around.capacity c.args.around.patience b.index v (b.cores + v) c.in-Some.copy m _ old new w c.in-Some.ensures.some refl c.put.ensures.items c.put.ensures.spare refl),
    )

pub loop-step-preserved : goal.loop-step-preserved
loop-step-preserved g c =
    let b = c.args.self.now in
    let a = c.args.hold.now in
    let m = c.loop-step.hold in
    let before = c.loop-step.invariant in
    let ring = c.of_turn-ring.result in
    let v = c.index-vertex.result.now in
    let at = c.place_after.result in
    let inside = c.place_after.ensures.inside (omega arith) in
    let below : at < length b.vertices.items = omega (arith, b.vertices.ok.0) in
    let there = vertex_there c.args.around.links.now b m at v before.ready below c.index-vertex.ensures in
    let old = c.index_mut.result.now in
    let new = c.take.new.self in
    let w = end_written m.ends.items (b.cores + v) (b.cores + v) old new refl there c.index_mut.ensures.value in
    let none = lacks_at m _ (b.cores + v) old new w c.in_default.ensures.none refl refl refl in
    record {
      stays = stays_on a m _ before.stays none.0;
      ready = ready_bank_on c.args.around.capacity c.args.around.patience c.args.around.links.now b m _ _ (goes_none c.args.around.capacity c.args.around.patience m _ none.0)
          (All-set (IsEndOf c.args.around.links.now) m.ends.items (b.cores + v) new c.in_default.ensures.end before.ready.ends) before.ready;
      idle = gone_more (λ (j : ℕ). (d : ℕ) → IsIdleAt a.ends.items (b.cores + get_or b.vertices.items j d)) ring.start ring.count c.loop-step.step at (omega arith) inside
          (c.place_after.ensures.place (omega arith)) (vertex_idle b a m at v before.stays below c.index-vertex.ensures none.1) before.idle;
    }
