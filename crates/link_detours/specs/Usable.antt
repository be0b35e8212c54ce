-- The steps that flagged links allow.
use Rattle.std.specs.Prelude.{◌≡◌, Bool, true, false, List, slice_index_or, Option, Some}
use Rattle.std.specs.Option.{option_map}
use Rattle.spin_base.specs.declared.chips.Chip.{Chip}
use Rattle.spin_base.specs.declared.chips.Dir.{Dir}
use Rattle.spin_base.specs.Links.{opposite_of}
use Rattle.machine_desc.specs.declared.trees.Edge.{Edge}
use Rattle.machine_desc.specs.Description.{Description}
use Rattle.machine_desc.specs.Flags.{is_flagged}
use Rattle.machine_desc.specs.Live.{far_of, index_of, IsInside}

-- a step by a flagged link
abbrev pub FlaggedStep : Description → List Bool → Chip → Chip → Type 0
FlaggedStep m table a b = IsInside m a × ((d : Dir) × (is_flagged m table a d ≡ true) × (far_of m a d ≡ Some b))

-- whether a table with a place for each chip marks a chip
abbrev pub is_marked : Description → List Bool → Chip → Bool
is_marked m marks c = slice_index_or marks (index_of m c) false

-- the same link from its other end, where it leads anywhere
abbrev pub other_end_of : Description → Edge → Option Edge
other_end_of m e = option_map (λ (c : Chip). let f : Edge = record { chip = c; dir = opposite_of e.dir } in f) (far_of m e.chip e.dir)
