-- A small mesh on which the definitions can be tried: two chips, a net with targets on both, and a net to a device (this
-- project's own).
use Rattle.std.specs.Prelude.{ℕ, false, List, [], ◌∷◌, ◌++◌, None}
use Rattle.std.proofs.Common.{lit<, refl}
use Rattle.spin_base.specs.declared.chips.Chip.{Chip}
use Rattle.spin_base.specs.declared.chips.Spot.{Spot}
use Rattle.spin_base.specs.declared.chips.Dir.TheVariants.{East, West}
use Rattle.spin_base.specs.declared.chips.Port.TheVariants.{Link as ByLink, Local}
use Rattle.spin_base.specs.declared.routes.Out.TheVariants.{Link, Core}
use Rattle.spin_base.specs.declared.routes.Route.{Route}
use Rattle.spin_base.specs.declared.blocks.Block.{Block}
use Rattle.spin_base.specs.declared.blocks.Entry.{Entry}
use Rattle.spin_base.specs.declared.copies.McCopy.{McCopy}
use Rattle.spin_base.specs.declared.copies.Packet.{Packet}
use Rattle.spin_base.specs.declared.copies.Event.{Event}
use Rattle.spin_base.specs.declared.copies.Event.TheVariants.{Inject, Take, Send, Dump, Collect}
use Rattle.spin_base.specs.declared.sizes.TheConstants.{CHIP_MEMORY}
use Rattle.machine_desc.specs.declared.trees.Edge.{Edge}
use Rattle.machine_desc.specs.Description.{Description}
use Rattle.machine_desc.specs.Branch.{Exit}
use Rattle.machine_desc.specs.declared.nets.NetPlan.{NetPlan}
use Rattle.mesh_core.specs.State.{Setup, State}
use Rattle.mesh_core.specs.Opened.{opened_mesh}

-- two chips side by side, with no dead part
abbrev pub two_chip_board : Description
two_chip_board = record { width = 2; height = 1; wrap = false; sdram = CHIP_MEMORY; dead_chips = []; dead_cores = []; dead_links = [] }

abbrev pub left_chip : Chip
left_chip = record { x = 0; y = 0 }

abbrev pub right_chip : Chip
right_chip = record { x = 1; y = 0 }

-- the link from the left chip to the right one
abbrev pub east : Edge
east = record { chip = left_chip; dir = East }

-- the core that sends, and the targets: one on the same chip, two on the other
abbrev pub source : Spot
source = record { chip = left_chip; core = 1 }

abbrev pub targets : List Spot
targets = record { chip = left_chip; core = 2 } ∷ record { chip = right_chip; core = 1 } ∷ record { chip = right_chip; core = 2 } ∷ []

-- the device on the right chip's link east, which leads nowhere
abbrev pub device : Spot
device = record { chip = right_chip; core = 18 }

-- A vertex on each: 0 sends to 1, 2 and 3, and vertex 1 sends to the device, which is vertex 4.
abbrev pub spots : List Spot
spots = source ∷ (targets ++ device ∷ [])

-- the blocks of the key 0 alone, and of the key 1
abbrev pub block : Block
block = record { key = 0; mask = 4_294_967_295; within = refl; small = lit< tt }

abbrev pub other_block : Block
other_block = record { key = 1; mask = 4_294_967_295; within = refl; small = lit< tt }

-- the nets, both with the tree of the one link
abbrev pub net : NetPlan
net = record { block = block; source = source; targets = targets; tree = record { root = left_chip; edges = east ∷ [] } }

abbrev pub other_net : NetPlan
other_net = record { block = other_block; source = record { chip = left_chip; core = 2 }; targets = device ∷ []; tree = record { root = left_chip; edges = east ∷ [] } }

abbrev pub nets : List NetPlan
nets = net ∷ other_net ∷ []

-- On the left chip key 0 goes east (bit 0) and to core 2 (bit 8), on the right one to cores 1 and 2 (bits 7 and 8). Key 1
-- goes east on the left chip. The right one has no row for it: default routing takes it straight on, to the device.
abbrev pub left_route : Route
left_route = record { bits = 257; within = lit< tt }

abbrev pub right_route : Route
right_route = record { bits = 384; within = lit< tt }

abbrev pub east_route : Route
east_route = record { bits = 1; within = lit< tt }

abbrev pub entry_of_key : ℕ → Route → Entry
entry_of_key key route = record { key = key; mask = 4_294_967_295; route = route }

abbrev pub left_table : List Entry
left_table = entry_of_key 0 left_route ∷ entry_of_key 1 east_route ∷ []

abbrev pub right_table : List Entry
right_table = entry_of_key 0 right_route ∷ []

abbrev pub tables : List (List Entry)
tables = left_table ∷ right_table ∷ []

-- tables that are not right: the left chip has no row for key 1
abbrev pub wrong_tables : List (List Entry)
wrong_tables = (entry_of_key 0 left_route ∷ []) ∷ right_table ∷ []

-- a packet of the first net is sent twice, and one of the other net once
abbrev pub packets : List Packet
packets = record { net = 0; index = 0; payload = None } ∷ record { net = 0; index = 0; payload = None } ∷ record { net = 1; index = 0; payload = None } ∷ []

-- what the mesh never changes; each queue holds one copy
abbrev pub setup : Setup
setup = record { machine = two_chip_board; spots = spots; tables = tables; capacity = 1 }

-- the mesh before the first event
abbrev pub opened : State
opened = opened_mesh setup nets packets

-- the way to the last target
abbrev pub far_branch : List Exit
far_branch = record { chip = left_chip; out = Link East } ∷ record { chip = right_chip; out = Core 2 } ∷ []

-- the way to the device
abbrev pub device_branch : List Exit
device_branch = record { chip = left_chip; out = Link East } ∷ record { chip = right_chip; out = Link East } ∷ []

-- The first packet goes to all its targets.
abbrev pub first_packet : List Event
first_packet =
    Inject 0 ∷ Take left_chip Local ∷ Send left_chip (Core 2) ∷ Send left_chip (Link East) ∷ Take right_chip (ByLink West)
    ∷ Send right_chip (Core 1) ∷ Send right_chip (Core 2) ∷ Collect 2 ∷ Collect 3 ∷ []

-- The second packet finds the queue of vertex 1 full, and is dumped there.
abbrev pub second_packet : List Event
second_packet = Inject 0 ∷ Take left_chip Local ∷ Dump left_chip (Core 2) ∷ []

-- The packet of the other net goes through the right chip to the device.
abbrev pub device_packet : List Event
device_packet =
    Inject 1 ∷ Take left_chip Local ∷ Send left_chip (Link East) ∷ Take right_chip (ByLink West) ∷ Send right_chip (Link East) ∷ Collect 4 ∷ []

-- a copy of a packet of the first net that has passed so many routers
abbrev pub copy : ℕ → ℕ → McCopy
copy packet hop = record { packet = packet; key = 0; payload = None; hop = hop }

-- the copy of the other net's packet
abbrev pub other_copy : ℕ → McCopy
other_copy hop = record { packet = 2; key = 1; payload = None; hop = hop }
