-- Which device is one of others.
use Rattle.std.specs.Prelude.{List, Bool}
use Rattle.std.specs.List.{list_any}
use Rattle.machine_desc.specs.declared.trees.Edge.{Edge}
use Rattle.machine_desc.specs.Equality.{edge_eq}

-- the link is one of these
unfoldable pub is_among : List Edge → Edge → Bool
is_among links e = list_any (λ f. edge_eq f e) links
