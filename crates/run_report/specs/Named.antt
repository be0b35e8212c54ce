-- Deliveries with the names of their vertices (this project's own).
use Rattle.std.specs.Prelude.{ℕ, List, [], Option, Some, None, slice_get}
use Rattle.spin_base.specs.declared.chips.Spot.{Spot}
use Rattle.spin_base.specs.declared.copies.McCopy.{McCopy}
use Rattle.spin_base.specs.declared.copies.Delivery.{Delivery}

-- the name of a vertex, and no byte where there is no such vertex (a mesh delivers to its vertices alone)
abbrev pub vertex_name_of : Option (List ℕ × Spot) → List ℕ
vertex_name_of (Some vertex) = vertex.0
vertex_name_of None = []

-- a delivery as a report tells it: the name of the vertex, and the copy
abbrev pub named_delivery : List (List ℕ × Spot) → Delivery → List ℕ × McCopy
named_delivery placed d = (vertex_name_of (slice_get placed d.vertex), d.copy)
