use Rattle.mesh_run.proofs.Common.{Home, State, arith, get_or, length, slice_get-get_or, subst, ℕ, ◌<◌, ◌∙◌, ◌≡◌, ◌≤◌}
use Rattle.mesh_run.proofs.{CrossingLaws.end_still, SplitLaws.holds_on, SplitLaws.lanes_more, SplitLaws.moved_in, SplitLaws.place_there, SplitLaws.vertex_home, SplitLaws.vertex_there}
use Rattle.mesh_run.proofs.SplitLaws.{vertices_to_more}
use Rattle.mesh_run.proofs.splitting.move_in.Goals as goal

pub put_lane-requires : goal.put_lane-requires
put_lane-requires c =
    let nothing : Home = record { sender = 0; receiver = 0 } in
    let home : Home = get_or c.args.homes.now c.loop-place.place nothing in
    let below = c.loop-place-test.true in
    let e = place_there c.args.parts.now c.args.homes.now c.args.shares.now.items home.sender c.loop-place.place c.requires.4 (c.requires.4.senders c.loop-place.place nothing below) below in
    end_still c.args.shares.now.items c.loop-place.shares.items home.sender c.loop-place.place e.0 c.loop-place.invariant.shares_same e.1

pub loop-place-preserved : goal.loop-place-preserved
loop-place-preserved c =
    let nothing : Home = record { sender = 0; receiver = 0 } in
    lanes_more c.args.parts.now c.args.homes.now c.args.shares.now.items c.loop-place.place c.loop-place.parts c.swap_queue-copies.new.parts c.loop-place.shares.items c.put_lane.new.shares.items
    (get_or c.args.homes.now c.loop-place.place nothing) c.swap_queue-copies.result _ c.loop-place.invariant (slice_get-get_or c.args.homes.now c.loop-place.place nothing c.loop-place-test.true)
    c.swap_queue-copies.ensures.stood c.swap_queue-copies.ensures.stands c.put_lane.ensures

pub loop-cut-preserved : goal.loop-cut-preserved
loop-cut-preserved c = holds_on c.loop-vertex.shares.items c.loop-cut.shares.items c.poll.new.shares.items c.loop-cut.invariant c.poll.ensures

pub swap_unsent-requires : goal.swap_unsent-requires
swap_unsent-requires c =
    let m = c.args.parts.now in
    let ports = subst (λ (s : State). c.len-ports.result ≡ length s.inputs) c.parts.view_is (omega (arith, c.len-ports.ensures)) ∙ c.loop-place.invariant.same.inputs_long in
    let here = subst (λ (s : State). c.loop-vertex.vertex < length s.unsent) c.parts.view_is (omega (arith, c.len-vertex-end.ensures, c.loop-vertex-test.true)) in
    let below : c.loop-vertex.vertex < length m.unsent = subst (λ (k : ℕ). c.loop-vertex.vertex < k) c.loop-place.invariant.same.unsent_long here in
    vertex_there m c.args.homes.now c.args.shares.now.items c.loop-place.shares.items c.loop-vertex.shares.items c.len-ports.result c.loop-vertex.vertex c.requires.4
    c.loop-place.invariant.shares_same c.loop-vertex.invariant.shares_same ports below

pub loop-vertex-preserved : goal.loop-vertex-preserved
loop-vertex-preserved c =
    let m = c.args.parts.now in
    let ports = subst (λ (s : State). c.len-ports.result ≡ length s.inputs) c.parts.view_is (omega (arith, c.len-ports.ensures)) ∙ c.loop-place.invariant.same.inputs_long in
    let here = subst (λ (s : State). c.loop-vertex.vertex < length s.unsent) c.parts.view_is (omega (arith, c.len-vertex-end.ensures, c.loop-vertex-test.true)) in
    let below : c.loop-vertex.vertex < length m.unsent = subst (λ (k : ℕ). c.loop-vertex.vertex < k) c.loop-place.invariant.same.unsent_long here in
    vertices_to_more (length m.inputs) m c.args.homes.now c.loop-place.shares.items c.loop-vertex.vertex c.loop-vertex.parts c.swap_kept-copies.new.parts c.loop-vertex.shares.items
    c.swap_unsent.new.shares.items
    _ c.swap_kept-copies.result _ c.loop-vertex.invariant (vertex_home m c.args.homes.now c.args.shares.now.items c.len-ports.result c.loop-vertex.vertex c.requires.4 ports below)
    c.swap_kept-copies.ensures.stood c.swap_kept-copies.ensures.stands.same c.swap_kept-copies.ensures.stands.unsent c.swap_unsent.ensures.put

pub returns : goal.returns
returns c =
    let m = c.args.parts.now in
    let past = subst (λ (s : State). length s.unsent ≤ c.loop-vertex.vertex) c.parts.view_is (omega (arith, c.len-vertex-end.ensures, c.loop-vertex-test.false)) in
    let past_k : length m.unsent ≤ c.loop-vertex.vertex = subst (λ (k : ℕ). k ≤ c.loop-vertex.vertex) c.loop-place.invariant.same.unsent_long past in
    moved_in m c.loop-place.parts c.loop-vertex.parts c.args.homes.now c.requires.2 c.requires.0 c.requires.1 c.loop-place.place c.loop-vertex.vertex
    c.args.shares.now.items c.loop-place.shares.items c.loop-vertex.shares.items c.loop-cut.shares.items c.requires.3 c.requires.4 c.loop-place-test.false past_k
    c.loop-place.invariant c.loop-vertex.invariant c.loop-cut.invariant
