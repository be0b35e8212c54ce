-- The entries of a router's table that rows are (entries: SpiNNaker datasheet; rows: this project's own).
use Rattle.spin_base.specs.declared.blocks.Entry.{Entry}
use Rattle.tern_word.specs.declared.tables.Row.{Row}

-- the key, mask and route of a row
abbrev pub entry_of : Row → Entry
entry_of r = record { key = r.block.key; mask = r.block.mask; route = r.route }
