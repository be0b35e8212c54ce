-- The order of a tree's edges.
use Rattle.std.specs.Prelude.{◌≡◌, ℕ, ◌<◌, ◌⊎◌, List, AllPairs}
use Rattle.spin_base.specs.Links.{dir_number}
use Rattle.machine_desc.specs.declared.trees.Edge.{Edge}

-- Edges are ordered by x, then y, then the link's number (this project's own).
abbrev pub IsEdgeBefore : Edge → Edge → Type 0
IsEdgeBefore e f =
    (e.chip.x < f.chip.x)
    ⊎ ((e.chip.x ≡ f.chip.x) × ((e.chip.y < f.chip.y) ⊎ ((e.chip.y ≡ f.chip.y) × (dir_number e.dir < dir_number f.dir))))

abbrev pub AreEdgesInOrder : List Edge → Type 0
AreEdgesInOrder edges = AllPairs IsEdgeBefore edges

-- the numbers of an edge in that order
abbrev pub edge_key : Edge → ℕ × ℕ × ℕ
edge_key e = (e.chip.x, e.chip.y, dir_number e.dir)
