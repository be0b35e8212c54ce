use Rattle.mesh_run.proofs.Common.{LinkEnds, [], map, map-append, ◌∙◌, ◌∷◌}
use Rattle.mesh_run.proofs.Holding.{last_leaves}
use Rattle.mesh_run.proofs.standing.Standing.pop.Goals as goal

pub last_of-link-requires : goal.last_of-link-requires
last_of-link-requires c =
    let rest = c.requires.0 in
    let last = c.requires.1 in
    (map (λ (e : LinkEnds). e.link) rest, last.link, c.requires.2.links ∙ map-append (λ (e : LinkEnds). e.link) rest (last ∷ []))

pub returns : goal.returns
returns c = λ rest last holds.
    last_leaves rest last _ c.last_of.result c.last_of-2.result c.args.self.now _ holds c.last_of-link.ensures c.last_of.ensures c.present-tx.ensures c.last_of-2.ensures c.present-rx.ensures
    c.last_of-room.ensures
