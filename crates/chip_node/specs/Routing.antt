-- Where a router sends a copy.
use Rattle.std.specs.Prelude.{◌==◌, if◌then◌else◌, List, []}
use Rattle.spin_base.specs.declared.chips.Port.{Port}
use Rattle.spin_base.specs.declared.routes.Out.{Out}
use Rattle.spin_base.specs.declared.blocks.Entry.{Entry}
use Rattle.spin_base.specs.declared.copies.McCopy.{McCopy}
use Rattle.spin_base.specs.Hops.{last_hop}
use Rattle.spin_base.specs.Lookup.{lookup}
use Rattle.spin_base.specs.Outputs.{outs_of}

-- The outputs that a router with these entries gives a copy that came in at this port: those that lookup gives its key
-- (SpiNNaker datasheet), and none where it has the greatest hop number (this project's own).
abbrev pub outputs_at : List Entry → Port → McCopy → List Out
outputs_at entries port k = if k.hop == last_hop then [] else outs_of (lookup entries k.key port)
