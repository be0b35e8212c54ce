-- The packet was delivered to the vertex on the core, or a copy is in the core's queue, or neither.
use Rattle.mesh_core.proofs.Common.{IsMesh, List, McCopy, Some, State, ap, slice_index_or, subst, sym, vertex_at, ◌∙◌, ◌≡◌}
use Rattle.mesh_core.proofs.{Searching.delivery_has, Searching.core_has, Searching.core_lacks, Searching.core_queue_there, Ways.none_from}
use Rattle.mesh_core.proofs.meshes.Mesh.at_core.Goals as goal

pub returns-in-Some : goal.returns-in-Some
returns-in-Some c =
    delivery_has _ _ _ _ _ (sym (ap (λ (t : State). vertex_at t.setup.spots c.args.spot) c.self.view_is) ∙ (sym c.vertex_at.ensures ∙ c.in_ok-vertex.was)) (sym c.delivery_to.ensures ∙ c.in-Some.is)

pub returns-then-has_packet : goal.returns-then-has_packet
returns-then-has_packet c =
    let v = c.in_ok-vertex.vertex in
    let s : State = c.args.self.now in
    let q : List McCopy = c.index.result.now in
    let is_vertex : vertex_at s.setup.spots c.args.spot ≡ Some v = sym (ap (λ (t : State). vertex_at t.setup.spots c.args.spot) c.self.view_is) ∙ (sym c.vertex_at.ensures ∙ c.in_ok-vertex.was) in
    let mesh : IsMesh s = subst IsMesh c.self.view_is c.self.invariant in
    let there : q ≡ slice_index_or s.cores v q = c.index.ensures ∙ ap (λ (t : State). slice_index_or t.cores v q) c.self.view_is in
    core_has s c.args.packet c.args.spot v c.as_slice.result.now is_vertex
    (core_queue_there s mesh c.args.spot v is_vertex c.as_slice.result.now q there c.as_slice.ensures)
    (sym c.has_packet.ensures ∙ c.if-has_packet.true)

pub returns : goal.returns
returns c =
    let v = c.in_ok-vertex.vertex in
    let s : State = c.args.self.now in
    let q : List McCopy = c.index.result.now in
    let is_vertex : vertex_at s.setup.spots c.args.spot ≡ Some v = sym (ap (λ (t : State). vertex_at t.setup.spots c.args.spot) c.self.view_is) ∙ (sym c.vertex_at.ensures ∙ c.in_ok-vertex.was) in
    let mesh : IsMesh s = subst IsMesh c.self.view_is c.self.invariant in
    let there : q ≡ slice_index_or s.cores v q = c.index.ensures ∙ ap (λ (t : State). slice_index_or t.cores v q) c.self.view_is in
    core_lacks s c.args.packet c.args.spot v c.as_slice.result.now is_vertex
    (sym c.delivery_to.ensures ∙ none_from c.delivery_to.result c.in_default.not-Some)
    (core_queue_there s mesh c.args.spot v is_vertex c.as_slice.result.now q there c.as_slice.ensures)
    (sym c.has_packet.ensures ∙ c.if-has_packet.false)
