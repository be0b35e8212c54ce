-- Why vertices are not placed (this project's own).
use Rattle.std.specs.Prelude.{List}
use Rattle.machine_desc.specs.Description.{Description}
use Rattle.app_graph.specs.declared.graphs.Vertex.{Vertex}
use Rattle.place_fit.specs.declared.placing.PlaceErr.{PlaceErr}
use Rattle.place_fit.specs.declared.placing.PlaceErr.TheVariants.{NoRoom, Memory}
use Rattle.place_fit.specs.Placement.{HasNoRoom}

abbrev pub IsPlacementCause : Description → List Vertex → PlaceErr → Type 0
IsPlacementCause m vertices (NoRoom vertex) = HasNoRoom m vertices vertex
IsPlacementCause m vertices Memory = Unit {0}
