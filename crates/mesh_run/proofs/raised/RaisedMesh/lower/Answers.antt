use Rattle.mesh_run.proofs.Common.{Home, List, MovesOut, State, [], ap, arith, cut_queues, get_or_default, length, refl, subst, sym, ◌++◌, ◌<◌, ◌∙◌, ◌≤◌}
use Rattle.mesh_run.proofs.Lowering.{all_are_ends, cut_at, cut_inside, cuts_more, fits_raised, lowered, no_more_links}
use Rattle.mesh_run.proofs.raised.RaisedMesh.lower.Goals as goal

pub move_out-requires : goal.move_out-requires
move_out-requires g c = grind (arith, fits_raised (c.requires).0 0 c.args.self (c.requires).1 (c.requires).2)

pub bring_down-requires : goal.bring_down-requires
bring_down-requires g c =
    let r = c.requires in
    let queues = cut_queues (r.0.inputs ++ r.0.cores) c.args.self.layout.now.cuts.items in
    record { ends = (r.2.ends, r.2.holds, all_are_ends r.0.setup.capacity 0 queues r.2.ends r.2.up, no_more_links r.0 0 c.args.self r.2) }

pub swap_queue-requires : goal.swap_queue-requires
swap_queue-requires g c =
    let r = c.requires in
    let cuts = c.args.self.layout.now.cuts.items in
    let end = c.len-number-end.ensures ∙ c.args.self.layout.now.cuts.ok.0 in
    let below : c.loop-number.number < length cuts = omega (arith, end, c.loop-number-test.true) in
    cut_inside r.0 0 c.loop-number.number c.args.self c.move_out.new.parts c.loop-number.parts c.bring_down.new.queues.items c.loop-number.crossing.items c.index.result.now r.1 r.2
    c.move_out.ensures.same c.loop-number.invariant (cut_at cuts c.loop-number.number c.index.result.now below c.index.ensures)

pub loop-number-preserved : goal.loop-number-preserved
loop-number-preserved g c =
    let r = c.requires in
    let n = c.loop-number.number in
    let cuts = c.args.self.layout.now.cuts.items in
    let left = c.loop-number.crossing.items in
    let end = c.len-number-end.ensures ∙ c.args.self.layout.now.cuts.ok.0 in
    let below : n < length cuts = omega (arith, end, c.loop-number-test.true) in
    let at = cut_at cuts n c.index.result.now below c.index.ensures in
    let inside = cut_inside r.0 0 n c.args.self c.move_out.new.parts c.loop-number.parts c.bring_down.new.queues.items left c.index.result.now r.1 r.2 c.move_out.ensures.same
    c.loop-number.invariant at in
    let long = c.loop-number.invariant.long ∙ (c.bring_down.ensures.long ∙ r.2.crossing) in
    let here : n < length left = subst (λ k. n < k) (sym long) below in
    let read = c.replace-copies.ensures.value ∙ (c.index_mut.ensures.value ∙ get_or_default left n _ [] here) in
    cuts_more c.move_out.new.parts cuts c.bring_down.new.queues.items n c.loop-number.parts c.swap_queue.new.parts left _ c.index.result.now c.replace-copies.result c.replace-copies.new.dest
    r.2.laid.cuts.apart c.loop-number.invariant at inside read c.swap_queue.ensures.stands refl

pub returns : goal.returns
returns g c = λ m mesh raised.
    let self = c.args.self in
    let opened = c.parts.view_is in
    let moves = subst (λ (homes : List Home). MovesOut homes self.shares.items self.parts c.move_out.new.parts) c.deref.ensures.value c.move_out.ensures in
    let end = c.len-number-end.ensures ∙ self.layout.now.cuts.ok.0 in
    let past : length self.layout.now.cuts.items ≤ c.loop-number.number = omega (arith, end, c.loop-number-test.false) in
    lowered m 0 c.loop-number.number self c.move_out.new.parts c.loop-number.parts _ c.bring_down.new.queues.items c.loop-number.crossing.items mesh raised moves
    (c.bring_down.ensures.down raised.ends raised.holds) c.loop-number.invariant past
    (ap (λ (s : State). s.setup) opened) (ap (λ (s : State). s.unsent) opened) (ap (λ (s : State). s.inputs) opened) (ap (λ (s : State). s.hands) opened) (ap (λ (s : State). s.cores) opened)
    c.into_list.ensures (c.from_seq.ensures ∙ c.into_list-2.ensures)
