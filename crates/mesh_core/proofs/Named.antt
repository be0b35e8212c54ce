-- Lemmas by which goals of calls close, as the calls name them.
use Rattle.mesh_core.proofs.Common.{slice_get-get_or}
use Rattle.mesh_core.proofs.{Changes.IsMesh-delivered, Changes.IsMesh-dumped, Changes.IsMesh-empty, Changes.empty_from, EventsLaw.IsMesh-after_events, EventsLaw.IsMesh-after_put_back}
use Rattle.mesh_core.proofs.{QueueLists.drop_front-popped, ServingLaws.hands_after-none, ServingLaws.hands_after-some, VertexTableLaws.spot_place-below, VertexTableLaws.vertex_at-nowhere}
use Rattle.mesh_core.proofs.VertexTableLaws.{vertex_told}

pub ruleset hands_served = (hands_after-some, hands_after-none)

pub ruleset made_meshes = (empty_from, IsMesh-dumped, IsMesh-delivered, IsMesh-empty)

pub ruleset meshes_stay = (IsMesh-after_events, IsMesh-after_put_back)

pub ruleset popped_fronts = (drop_front-popped, slice_get-get_or)

pub ruleset told_vertices = (vertex_at-nowhere, spot_place-below, vertex_told)
