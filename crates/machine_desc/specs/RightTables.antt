-- Tables that route every key of every net by the net's tree.
use Rattle.std.specs.Prelude.{◌≡◌, ℕ, ◌<◌, ◌^◌, List, [], All, bit_and, slice_index_or}
use Rattle.spin_base.specs.declared.chips.Chip.{Chip}
use Rattle.spin_base.specs.declared.chips.Port.{Port}
use Rattle.spin_base.specs.declared.routes.Out.{Out}
use Rattle.spin_base.specs.declared.blocks.Block.{Block}
use Rattle.spin_base.specs.declared.blocks.Entry.{Entry}
use Rattle.spin_base.specs.Outputs.{has, IsOutput}
use Rattle.spin_base.specs.Lookup.{lookup}
use Rattle.machine_desc.specs.Description.{Description}
use Rattle.machine_desc.specs.Live.{index_of}
use Rattle.machine_desc.specs.declared.nets.NetPlan.{NetPlan}
use Rattle.machine_desc.specs.Outputs.{is_wanted, ComesIn}

-- A key of 32 bits is a block's where its bits under the mask are the block's key (SpiNNaker datasheet).
pub record IsKeyOf (block : Block) (key : ℕ) : Type 0 where
  pub fits : key < 2 ^ 32
  pub matches : bit_and key block.mask ≡ block.key

-- the table of a chip, by the chip's index
abbrev pub table_at : Description → List (List Entry) → Chip → List Entry
table_at m tables c = slice_index_or tables (index_of m c) []

-- Tables are right for a net where, at each chip and port at which the net's packets come in, lookup gives each key of
-- the net's block exactly the outputs that the net's tree wants at that chip.
abbrev pub RoutesByTree : Description → List (List Entry) → NetPlan → Type 0
RoutesByTree m tables net =
    (c : Chip) (port : Port) (key : ℕ) (o : Out) →
    ComesIn m net.tree.root net.tree.edges c port → IsKeyOf net.block key → IsOutput o →
    has (lookup (table_at m tables c) key port) o ≡ is_wanted net.tree.edges net.targets c o

-- Right tables route every net's packets by its tree.
abbrev pub AreRight : Description → List (List Entry) → List NetPlan → Type 0
AreRight m tables nets = All (RoutesByTree m tables) nets
