-- The order of edges is that of their links' places in a table.
use Rattle.machine_desc.proofs.Common.{Description, Edge, IsEdgeBefore, IsInside, arith, inl, inr, link_place, mul-le, suc, ◌<◌}
use Rattle.machine_desc.proofs.{Far.inside_parts, Same.below_six}

-- an edge that comes before another stands at a lesser place of the grid's links
pub before_place : (m : Description) (e f : Edge) → IsInside m e.chip → IsEdgeBefore e f →
    link_place m e.chip e.dir < link_place m f.chip f.dir
before_place m e f inside (inl x) = grind (arith, inside_parts m e.chip inside, mul-le (suc e.chip.x) m.height f.chip.x m.height (omega (arith, x)) (omega arith), below_six e.dir)
before_place m e f inside (inr (xs, inl y)) = grind (arith, below_six e.dir)
before_place m e f inside (inr (xs, inr (ys, d))) = grind arith
