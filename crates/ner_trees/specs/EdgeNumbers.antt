-- Edges by numbers that stand in their order.
use Rattle.std.specs.Prelude.{ℕ, ◌+◌, ◌*◌, ◌/◌, ◌%◌, ◌≡◌}
use Rattle.spin_base.specs.Links.{dir_at, dir_number}
use Rattle.machine_desc.specs.declared.trees.Edge.{Edge}

-- the number of an edge in the order of x, then y, then link, and the edge of a number
abbrev pub edge_number : Edge → ℕ
edge_number e = e.chip.x * 65536 + e.chip.y * 256 + dir_number e.dir

abbrev pub edge_numbered : ℕ → Edge
edge_numbered n = record { chip = record { x = n / 65536 % 256; y = n / 256 % 256 }; dir = dir_at (n % 256) }

-- the number is that of an edge
abbrev pub IsEdgeNumber : ℕ → Type 0
IsEdgeNumber n = edge_number (edge_numbered n) ≡ n
