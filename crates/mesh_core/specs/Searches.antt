-- What a search of some stations for a packet finds.
use Rattle.std.specs.Prelude.{◌≡◌, ◌≢◌, ℕ, ◌==◌, Bool, false, ◌&&◌, List, All, Contains, Option, Some, None, ◌⊎◌}
use Rattle.std.specs.List.{list_any}
use Rattle.spin_base.specs.declared.chips.Chip.{Chip}
use Rattle.spin_base.specs.declared.chips.Spot.{Spot}
use Rattle.spin_base.specs.declared.chips.Port.{Port}
use Rattle.spin_base.specs.declared.chips.Port.TheVariants.{Link as ByLink, Local}
use Rattle.spin_base.specs.declared.routes.Out.{Out}
use Rattle.spin_base.specs.Equality.{out_eq}
use Rattle.spin_base.specs.Links.{opposite_of}
use Rattle.machine_desc.specs.declared.trees.Edge.{Edge}
use Rattle.machine_desc.specs.Description.{Description}
use Rattle.machine_desc.specs.RoutingTree.{end_of}
use Rattle.machine_desc.specs.NetsOn.{vertex_at}
use Rattle.mesh_core.specs.declared.places.Where.{Where}
use Rattle.mesh_core.specs.State.{State, Hand}
use Rattle.mesh_core.specs.Trail.{Station, in_queue, in_hand, at_core, delivered, dumped, Mark}
use Rattle.mesh_core.specs.Ledger.{marks_of}
use Rattle.mesh_core.specs.Whereabouts.{TellsStation}

-- A search of stations answers the station of a mark of the packet there, and nothing exactly where there is none.
pub record IsMarkThere (s : State) (packet : ℕ) (IsThere : Station → Type 0) (w : Where) : Type 0 where
  pub mark : Mark
  pub is_mark : Contains (marks_of s) mark
  pub is_packet : mark.copy.packet ≡ packet
  pub there : IsThere mark.station
  pub told : TellsStation s mark.copy mark.station w

abbrev pub IsFound : State → ℕ → (Station → Type 0) → Option Where → Type 0
IsFound s packet IsThere (Some w) = IsMarkThere s packet IsThere w
IsFound s packet IsThere None = (k : Mark) → Contains (marks_of s) k → k.copy.packet ≡ packet → IsThere k.station → ⊥

-- the stations of the vertex on a core: the core's queue, and delivered
abbrev pub IsOfCore : State → Spot → Station → Type 0
IsOfCore s spot station = (v : ℕ) × (vertex_at s.setup.spots spot ≡ Some v) × ((station ≡ at_core v) ⊎ (station ≡ delivered v))

-- the stations of an output: the chip's hand for it, and dumped there
abbrev pub IsOfOutput : Chip → Out → Station → Type 0
IsOfOutput c o station = (station ≡ in_hand c o) ⊎ (station ≡ dumped c o)

abbrev pub IsOfPort : Chip → Port → Station → Type 0
IsOfPort c port station = station ≡ in_queue c port

-- whether a hand has a copy of the packet for an output
abbrev pub is_held : ℕ → Out → Option (Option Hand) → Bool
is_held packet o (Some (Some h)) = (h.copy.packet == packet) && list_any (out_eq o) h.outs
is_held packet o (Some None) = false
is_held packet o None = false

-- the port at which a tree's packets come in where this edge leads, and at the root
abbrev pub port_behind : Option Edge → Port
port_behind (Some e) = ByLink (opposite_of e.dir)
port_behind None = Local

-- an edge of the list that leads into a chip, and none exactly where no edge does
abbrev pub IsEdgeInto : Description → List Edge → Chip → Option Edge → Type 0
IsEdgeInto m edges c (Some e) = Contains edges e × (end_of m e ≡ Some c)
IsEdgeInto m edges c None = All (λ e. end_of m e ≢ Some c) edges
