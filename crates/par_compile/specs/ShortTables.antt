-- The final tables of plain tables that are not covered.
use Rattle.std.specs.Prelude.{List, [], ◌∷◌, if◌then◌else◌}
use Rattle.std.specs.List.{flat_map}
use Rattle.spin_base.specs.declared.blocks.Entry.{Entry}
use Rattle.tern_word.specs.Entries.{entry_of}
use Rattle.net_tables.specs.declared.marks.Mark.{Mark}
use Rattle.net_tables.specs.Marks.{goes_straight, row_of_mark}

-- the entry of an original block, unless default routing replaces it
abbrev pub kept_entry : Mark → List Entry
kept_entry k = if goes_straight k.port k.route then [] else (entry_of (row_of_mark k) ∷ [])

-- the entries of those original blocks that default routing does not replace, in their order
abbrev pub kept_entries : List Mark → List Entry
kept_entries marks = flat_map kept_entry marks
