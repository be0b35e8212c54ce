-- What a net's tree wants of a router: the outputs at a chip, and the port at which packets come in there.
use Rattle.std.specs.Prelude.{◌≡◌, ◌⊎◌, Bool, false, ◌&&◌, ◌||◌, List, Some, Contains}
use Rattle.std.specs.List.{list_any}
use Rattle.spin_base.specs.declared.chips.Chip.{Chip}
use Rattle.spin_base.specs.declared.chips.Spot.{Spot}
use Rattle.spin_base.specs.declared.chips.Port.{Port}
use Rattle.spin_base.specs.declared.chips.Port.TheVariants.{Link as ByLink, Local}
use Rattle.spin_base.specs.declared.routes.Out.{Out}
use Rattle.spin_base.specs.declared.routes.Out.TheVariants.{Link, Core}
use Rattle.spin_base.specs.Links.{opposite_of}
use Rattle.spin_base.specs.Outputs.{out_of}
use Rattle.spin_base.specs.Equality.{chip_eq, out_eq}
use Rattle.machine_desc.specs.declared.trees.Edge.{Edge}
use Rattle.machine_desc.specs.Description.{Description}
use Rattle.machine_desc.specs.RoutingTree.{end_of}
use Rattle.machine_desc.specs.Equality.{edge_eq}

-- whether an edge of the list leaves the chip by this output
abbrev pub is_edge_out : List Edge → Chip → Out → Bool
is_edge_out edges c (Link d) = list_any (edge_eq (record { chip = c; dir = d })) edges
is_edge_out edges c (Core p) = false

-- whether the output leads to a spot of this chip
abbrev pub leads_to_spot : Chip → Out → Spot → Bool
leads_to_spot c o s = chip_eq s.chip c && out_eq (out_of s.core) o

-- The outputs that a tree wants at a chip are the links of its edges there and the outputs of the targets there.
abbrev pub is_wanted : List Edge → List Spot → Chip → Out → Bool
is_wanted edges targets c o = is_edge_out edges c o || list_any (leads_to_spot c o) targets

-- A net's packets come in at the root from the chip's own cores, and at each chip into which an edge leads by the link
-- opposite to that edge (SpiNNaker datasheet).
abbrev pub ComesIn : Description → Chip → List Edge → Chip → Port → Type 0
ComesIn m root edges c port =
    ((c ≡ root) × (port ≡ Local))
    ⊎ ((e : Edge) × Contains edges e × (end_of m e ≡ Some c) × (port ≡ ByLink (opposite_of e.dir)))
