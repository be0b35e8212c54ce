use Rattle.mesh_run.proofs.Common.{Home, State, arith, get_or, length, slice_get-get_or, subst, sym, ℕ, ◌<◌, ◌∙◌, ◌≡◌, ◌≤◌}
use Rattle.mesh_run.proofs.{CrossingLaws.end_still, SplitLaws.moved_out, SplitLaws.out_more, SplitLaws.place_there, SplitLaws.unsent_out_more, SplitLaws.vertex_home, SplitLaws.vertex_there}
use Rattle.mesh_run.proofs.splitting.move_out.Goals as goal

pub take_lane-requires-clause-end : goal.take_lane-requires-clause-end
take_lane-requires-clause-end c =
    let nothing : Home = record { sender = 0; receiver = 0 } in
    let home : Home = get_or c.args.homes.now c.loop-place.place nothing in
    let below = c.loop-place-test.true in
    let e = place_there c.args.parts.now c.args.homes.now c.args.shares.now.items home.sender c.loop-place.place c.requires (c.requires.senders c.loop-place.place nothing below) below in
    end_still c.args.shares.now.items c.loop-place.shares.items home.sender c.loop-place.place e.0 c.loop-place.invariant.shares_same e.1

pub loop-place-preserved : goal.loop-place-preserved
loop-place-preserved c =
    let nothing : Home = record { sender = 0; receiver = 0 } in
    let long = c.requires.long in
    let inputs = c.loop-place.invariant.same.inputs_long in
    let cores = c.loop-place.invariant.same.cores_long in
    let below = c.loop-place-test.true in
    out_more c.args.parts.now c.args.homes.now c.args.shares.now.items c.loop-place.place c.loop-place.parts c.take_lane.new.parts c.loop-place.shares.items c.take_lane.new.shares.items
    (get_or c.args.homes.now c.loop-place.place nothing) c.loop-place.invariant (slice_get-get_or c.args.homes.now c.loop-place.place nothing below)
    (omega (arith, long, inputs, cores, below)) c.take_lane.ensures

pub swap_unsent-copies-requires : goal.swap_unsent-copies-requires
swap_unsent-copies-requires c =
    let m = c.args.parts.now in
    let ports = subst (λ (s : State). c.len-ports.result ≡ length s.inputs) c.parts.view_is (omega (arith, c.len-ports.ensures)) ∙ c.loop-place.invariant.same.inputs_long in
    let here = subst (λ (s : State). c.loop-vertex.vertex < length s.unsent) c.parts.view_is (omega (arith, c.len-vertex-end.ensures, c.loop-vertex-test.true)) in
    let below : c.loop-vertex.vertex < length m.unsent = subst (λ (k : ℕ). c.loop-vertex.vertex < k) c.loop-place.invariant.same.unsent_long here in
    vertex_there m c.args.homes.now c.args.shares.now.items c.loop-place.shares.items c.loop-vertex.shares.items c.len-ports.result c.loop-vertex.vertex c.requires
    c.loop-place.invariant.shares_same c.loop-vertex.invariant.shares_same ports below

pub loop-vertex-preserved : goal.loop-vertex-preserved
loop-vertex-preserved c =
    let m = c.args.parts.now in
    let ports = subst (λ (s : State). c.len-ports.result ≡ length s.inputs) c.parts.view_is (omega (arith, c.len-ports.ensures)) ∙ c.loop-place.invariant.same.inputs_long in
    let here = subst (λ (s : State). c.loop-vertex.vertex < length s.unsent) c.parts.view_is (omega (arith, c.len-vertex-end.ensures, c.loop-vertex-test.true)) in
    let below : c.loop-vertex.vertex < length m.unsent = subst (λ (k : ℕ). c.loop-vertex.vertex < k) c.loop-place.invariant.same.unsent_long here in
    let kept = c.swap_kept.ensures.stands in
    unsent_out_more (length m.inputs) c.loop-place.parts c.args.homes.now c.loop-place.shares.items c.loop-vertex.vertex c.loop-vertex.parts c.swap_kept.new.parts c.loop-vertex.shares.items
    c.swap_unsent-copies.new.shares.items
    _ c.swap_unsent-copies.result _ c.loop-vertex.invariant (vertex_home m c.args.homes.now c.args.shares.now.items c.len-ports.result c.loop-vertex.vertex c.requires ports below)
    (subst (λ (k : ℕ). c.loop-vertex.vertex < k) (sym c.loop-vertex.invariant.same.unsent_long) here) c.swap_unsent-copies.ensures.stood c.swap_unsent-copies.ensures.put kept.same
    kept.inputs kept.cores kept.unsent

pub returns : goal.returns
returns c =
    let m = c.args.parts.now in
    let past = subst (λ (s : State). length s.unsent ≤ c.loop-vertex.vertex) c.parts.view_is (omega (arith, c.len-vertex-end.ensures, c.loop-vertex-test.false)) in
    let past_k : length m.unsent ≤ c.loop-vertex.vertex = subst (λ (k : ℕ). k ≤ c.loop-vertex.vertex) c.loop-place.invariant.same.unsent_long past in
    moved_out m c.loop-place.parts c.loop-vertex.parts c.args.homes.now c.loop-place.place c.loop-vertex.vertex c.args.shares.now.items c.loop-place.shares.items c.loop-vertex.shares.items
    c.requires c.loop-place-test.false past_k c.loop-place.invariant c.loop-vertex.invariant
