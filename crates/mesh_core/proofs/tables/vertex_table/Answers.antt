-- The table tells one vertex more after each spot.
use Rattle.mesh_core.proofs.Common.{Some, Spot, TellsVertices, arith, get_or, get_or_default, set, spot_place, subst, sym, take, ℕ, ◌+◌, ◌≡◌}
use Rattle.mesh_core.proofs.{VertexTableLaws.TellsVertices-none, VertexTableLaws.TellsVertices-more, VertexTableLaws.TellsVertices-beyond, tables.vertex_table.Goals.in-Some}
use Rattle.mesh_core.proofs.tables.vertex_table.Goals.{in_default-spot_place}
use Rattle.mesh_core.proofs.tables.vertex_table.Goals as goal

pub loop-vertex-init : goal.loop-vertex-init
loop-vertex-init c = grind (arith, TellsVertices-none (c.args.machine.now) c.args.spots.now)

pub loop-vertex-preserved : goal.loop-vertex-preserved
loop-vertex-preserved c =
    let m = c.args.machine.now in
    let at = c.loop-vertex.vertex in
    let y : Spot = get_or c.args.spots.now at (record { chip = record { x = 0; y = 0 }; core = 0 }) in
    let is_y : y ≡ get_or c.args.spots.now at y = get_or_default c.args.spots.now at _ y c.loop-vertex-test.true in
    let told : ℕ → ℕ → Type 0 = λ place vertex. TellsVertices m (take (at + 1) c.args.spots.now) (set c.loop-vertex.table.items place (Some vertex)) in
    elim c.match-spot_place.branch [
      | in-Some w ↦
          rw w.table-is (subst (λ place. told place c.in-Ok.number) (sym w.in-Some.ensures.2)
          (subst (told (spot_place m y)) (sym c.in-Ok.ensures.1)
          (TellsVertices-more m c.args.spots.now at y c.loop-vertex.table.items c.loop-vertex-test.true is_y c.requires w.in-Some.ensures.0 w.in-Some.ensures.1 c.loop-vertex.invariant)))
      | in_default-spot_place w ↦
          rw w.table-is (TellsVertices-beyond m c.args.spots.now at y c.loop-vertex.table.items c.loop-vertex-test.true is_y w.in_default-spot_place.ensures c.loop-vertex.invariant)
    ]
