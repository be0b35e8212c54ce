use Rattle.chip_node.proofs.Common.{All-set, End, Front, HasRoomForOuts, IsEndOf, IsSeen, List, Out, Port, ap, arith, get_or, length, one_item_at, outputs_at, port_number, port_place, refl, set}
use Rattle.chip_node.proofs.Common.{subst, ℕ, ◌*◌, ◌+◌, ◌<◌, ◌∙◌, ◌≡◌}
use Rattle.chip_node.proofs.{EndSteps.end_lacks_idle, Flows.goes_none, Flows.ready_router_on, Looking.end_written, Looking.idle_at, Looking.lacks_at, Looking.read_stands, Looking.room_kept}
use Rattle.chip_node.proofs.{Looking.seen_first, Placing.stays_at, Placing.took_goes, Placing.Writes, Stays.stays_same, Turning.looks_on}
use Rattle.chip_node.proofs.nodes.RouterNode.look.Goals as goal

-- the end at a port's place is written
written : (ends xs : List End) (i n : ℕ) (port : Port) (old new : End) → xs ≡ ends → n ≡ port_number port → 7 * i + n < length xs
    → old ≡ get_or ends (7 * i + n) old → Writes ends (set ends (7 * i + n) new) (port_place i port) old new
written ends xs i n port old new same number below read =
    let at : 7 * i + n ≡ port_place i port = ap (λ k. 7 * i + k) number in
    let long = ap length same in
    end_written ends _ (port_place i port) old new at (omega arith) read

pub returns-in-Nothing-clause-looks : goal.returns-in-Nothing-clause-looks
returns-in-Nothing-clause-looks g c = grind (arith, stays_same c.args.hold.now, end_lacks_idle (c.in-Some.end.now) (c.in-Some.end.now) c.in-Nothing.ensures, read_stands, idle_at)

pub returns-in-Some-take-clause-looks : goal.returns-in-Some-take-clause-looks
returns-in-Some-take-clause-looks g c =
    let r = c.args.self in
    let a = c.args.hold.now in
    let at : 7 * r.index + c.from.result ≡ port_place r.index c.args.port = ap (λ n. 7 * r.index + n) (c.from.ensures ∙ c.number-number.ensures.number) in
    let old = c.index_mut.result.now in
    let new = c.take.new.self in
    let inside = c.in-Some.ensures.lookup.3.0 in
    let w = written a.ends.items c.deref.result.now r.index c.from.result c.args.port old new c.deref.ensures.value (c.from.ensures ∙ c.number-number.ensures.number) inside
    c.index_mut.ensures.value in
    let x = c.in-Some.end.now in
    let stands = read_stands a.ends.items c.deref.result.now _ _ x c.deref.ensures.value at inside c.in-Some.ensures.lookup.1 in
    let f = c.in-Front.copy in
    let sees : IsSeen (Front f) old = subst (IsSeen (Front f)) (one_item_at a.ends.items (port_place r.index c.args.port) _ x old refl stands w.stood) c.in-Front.ensures in
    let given = c.outputs_of-outs.ensures.given ∙ ap (outputs_at r.table.now c.args.port) (seen_first f c.in-Some-take.copy old new sees c.in-Some-take.ensures.some) in
    record {
      goes = took_goes c.args.around.capacity c.args.around.patience r.index c.args.port c.in-Some-take.copy a _ old new w c.in-Some-take.ensures.some refl refl refl;
      given = given;
      outs = c.outputs_of-outs.ensures.outs;
      room = room_kept c.args.around.capacity c.args.around.links.now r c.args.port _ a _ old new c.requires w refl
          (subst (λ (l : List Out). HasRoomForOuts c.args.around.capacity r l a) c.as_slice.ensures.value (c.if-not-has_room.ensures.yes refl));
    }

pub returns-in-Some-take-clause-ready : goal.returns-in-Some-take-clause-ready
returns-in-Some-take-clause-ready g c =
    ready_router_on c.args.around.capacity c.args.around.patience c.args.around.links.now c.args.self c.args.hold.now _ _ (returns-in-Some-take-clause-looks g c).goes
    (All-set (IsEndOf c.args.around.links.now) c.args.hold.now.ends.items _ c.take.new.self c.in-Some-take.ensures.end c.requires.ends) c.requires

pub returns-in-None-clause-looks : goal.returns-in-None-clause-looks
returns-in-None-clause-looks g c = grind (arith, written, lacks_at)

pub returns-then-finds_nothing-clause-looks : goal.returns-then-finds_nothing-clause-looks
returns-then-finds_nothing-clause-looks g c =
    let r = c.args.self in
    let a = c.args.hold.now in
    let w = written a.ends.items c.deref.result.now r.index c.from.result c.args.port c.index_mut-in-Unknown.result.now c.finds_nothing.new.self c.deref.ensures.value
    (c.from.ensures ∙ c.number-number.ensures.number) c.in-Some.ensures.lookup.3.0 c.index_mut-in-Unknown.ensures.value in
    lacks_at a _ (port_place r.index c.args.port) _ _ w (c.if-finds_nothing.ensures.yes refl) refl refl refl

pub returns-then-finds_nothing-clause-ready : goal.returns-then-finds_nothing-clause-ready
returns-then-finds_nothing-clause-ready g c =
    ready_router_on c.args.around.capacity c.args.around.patience c.args.around.links.now c.args.self c.args.hold.now _ _
    (goes_none c.args.around.capacity c.args.around.patience c.args.hold.now _ (returns-then-finds_nothing-clause-looks g c).0)
    (All-set (IsEndOf c.args.around.links.now) c.args.hold.now.ends.items _ c.finds_nothing.new.self c.finds_nothing.ensures.end c.requires.ends) c.requires

pub take_over-requires-clause-ready : goal.take_over-requires-clause-ready
take_over-requires-clause-ready g c =
    let r = c.args.self in
    let a = c.args.hold.now in
    let w = written a.ends.items c.deref.result.now r.index c.from.result c.args.port c.index_mut-in-Unknown.result.now c.finds_nothing.new.self c.deref.ensures.value
    (c.from.ensures ∙ c.number-number.ensures.number) c.in-Some.ensures.lookup.3.0 c.index_mut-in-Unknown.ensures.value in
    ready_router_on c.args.around.capacity c.args.around.patience c.args.around.links.now r a _ _
    (goes_none c.args.around.capacity c.args.around.patience a _ (stays_at a _ (port_place r.index c.args.port) _ _ w (c.if-finds_nothing.ensures.no refl) refl refl refl))
    (All-set (IsEndOf c.args.around.links.now) a.ends.items _ c.finds_nothing.new.self c.finds_nothing.ensures.end c.requires.ends) c.requires

pub returns-else-finds_nothing-clause-looks : goal.returns-else-finds_nothing-clause-looks
returns-else-finds_nothing-clause-looks g c =
    let r = c.args.self in
    let a = c.args.hold.now in
    let w = written a.ends.items c.deref.result.now r.index c.from.result c.args.port c.index_mut-in-Unknown.result.now c.finds_nothing.new.self c.deref.ensures.value
    (c.from.ensures ∙ c.number-number.ensures.number) c.in-Some.ensures.lookup.3.0 c.index_mut-in-Unknown.ensures.value in
    looks_on c.args.around.capacity c.args.around.patience r.table.now r c.args.port a _ c.take_over.result c.take_over.new.hold
    (stays_at a _ (port_place r.index c.args.port) _ _ w (c.if-finds_nothing.ensures.no refl) refl refl refl) c.take_over.ensures.looks
