use Rattle.chip_node.proofs.Common.{All-set, HasRoomForOuts, IsEndOf, List, Out, ap, port_place, refl, subst, sym, ◌*◌, ◌+◌, ◌∙◌}
use Rattle.chip_node.proofs.{Flows.goes_none, Flows.ready_router_on, Looking.end_written, Looking.lacks_at, Looking.room_for_all, Looking.room_kept, Placing.took_goes}
use Rattle.chip_node.proofs.nodes.RouterNode.take_over.Goals as goal

pub returns-in-Some-clause-looks : goal.returns-in-Some-clause-looks
returns-in-Some-clause-looks g c =
    let r = c.args.self in
    let a = c.args.hold.now in
    let old = c.index_mut.result.now in
    let new = c.take.new.self in
    let w = end_written a.ends.items _ (port_place r.index c.args.port) old new (ap (λ n. 7 * r.index + n) (c.from.ensures ∙ c.number.ensures.number)) c.requires.place c.index_mut.ensures.value in
    let given = c.outputs_of-outs.ensures.given in
    record {
      goes = took_goes c.args.around.capacity c.args.around.patience r.index c.args.port c.in-Some.copy a _ old new w c.in-Some.ensures.some refl refl refl;
      given = given;
      outs = c.outputs_of-outs.ensures.outs;
      room = room_kept c.args.around.capacity c.args.around.links.now r c.args.port _ a _ old new c.requires.ready w refl
          (subst (λ (l : List Out). HasRoomForOuts c.args.around.capacity r l a) (sym given)
          (room_for_all c.args.around.capacity r.table.now r c.args.port c.in-Some.copy a (c.if-not-has_room_everywhere.ensures.yes refl)));
    }

pub returns-in-Some-clause-ready : goal.returns-in-Some-clause-ready
returns-in-Some-clause-ready g c =
    ready_router_on c.args.around.capacity c.args.around.patience c.args.around.links.now c.args.self c.args.hold.now _ _ (returns-in-Some-clause-looks g c).goes
    (All-set (IsEndOf c.args.around.links.now) c.args.hold.now.ends.items _ c.take.new.self c.in-Some.ensures.end c.requires.ready.ends) c.requires.ready

pub returns-in-None-clause-looks : goal.returns-in-None-clause-looks
returns-in-None-clause-looks g c =
    let r = c.args.self in
    let a = c.args.hold.now in
    let old = c.index_mut.result.now in
    let new = c.take.new.self in
    let w = end_written a.ends.items _ (port_place r.index c.args.port) old new (ap (λ n. 7 * r.index + n) (c.from.ensures ∙ c.number.ensures.number)) c.requires.place c.index_mut.ensures.value in
    lacks_at a _ (port_place r.index c.args.port) old new w c.in-None.ensures.none refl refl refl

pub returns-in-None-clause-ready : goal.returns-in-None-clause-ready
returns-in-None-clause-ready g c =
    ready_router_on c.args.around.capacity c.args.around.patience c.args.around.links.now c.args.self c.args.hold.now _ _
    (goes_none c.args.around.capacity c.args.around.patience c.args.hold.now _ (returns-in-None-clause-looks g c).0)
    (All-set (IsEndOf c.args.around.links.now) c.args.hold.now.ends.items _ c.take.new.self c.in-None.ensures.end c.requires.ready.ends) c.requires.ready
