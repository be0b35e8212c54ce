-- The way of a packet down a routing tree to one target.
use Rattle.std.specs.Prelude.{◌≡◌, ◌⊎◌, ℕ, List, [], ◌∷◌, Some, Contains}
use Rattle.std.proofs.Common.{zero, suc}
use Rattle.spin_base.specs.declared.chips.Chip.{Chip}
use Rattle.spin_base.specs.declared.chips.Spot.{Spot}
use Rattle.spin_base.specs.declared.chips.Port.{Port}
use Rattle.spin_base.specs.declared.chips.Port.TheVariants.{Link as ByLink, Local}
use Rattle.spin_base.specs.declared.routes.Out.{Out}
use Rattle.spin_base.specs.declared.routes.Out.TheVariants.{Link, Core}
use Rattle.spin_base.specs.Links.{opposite_of}
use Rattle.spin_base.specs.Outputs.{out_of}
use Rattle.spin_base.specs.declared.chips.Dir.{Dir}
use Rattle.machine_desc.specs.declared.trees.Edge.{Edge}
use Rattle.machine_desc.specs.Description.{Description}
use Rattle.machine_desc.specs.Live.{far_of}

-- A chip, and the output by which a packet leaves it.
pub record Exit : Type 0 where
  pub chip : Chip
  pub out : Out

-- A packet leaves a chip by an edge of the tree, and goes on where the edge leads; or it is on the target's chip, leaves by the
-- target's output, and goes on nowhere.
abbrev pub GoesOn : Description → List Edge → Spot → Chip → Out → List Exit → (Chip → Type 0) → Type 0
GoesOn m edges target c o rest From =
    ((d : Dir) × (o ≡ Link d) × Contains edges (record { chip = c; dir = d }) × ((e : Chip) × (far_of m c d ≡ Some e) × From e))
    ⊎ ((target.chip ≡ c) × (o ≡ out_of target.core) × (rest ≡ []))

-- the exits of a packet on its way from a chip, along the edges, to the target
abbrev pub IsWay : Description → List Edge → Spot → Chip → List Exit → Type 0
IsWay m edges target from [] = ⊥
IsWay m edges target from (x ∷ xs) =
    (x.chip ≡ from) × GoesOn m edges target from x.out xs (λ e. IsWay m edges target e xs)

-- A branch of a tree is the list of exits of a packet on its way from the root to the target: it begins at the root, an
-- exit by an edge goes on at its far end, and the last exit is the target's output.
abbrev pub IsBranch : Description → Chip → List Edge → Spot → List Exit → Type 0
IsBranch m root edges target xs = IsWay m edges target root xs

-- A packet that went out by a link comes in by the link that leads the other way (SpiNNaker datasheet).
abbrev pub port_after : Out → Port
port_after (Link d) = ByLink (opposite_of d)
port_after (Core p) = Local

-- The port at which a packet comes in at place i of a branch: from the chip's own cores at the root.
abbrev pub arrival_from : Port → List Exit → ℕ → Port
arrival_from port xs zero = port
arrival_from port [] (suc i) = port
arrival_from port (x ∷ xs) (suc i) = arrival_from (port_after x.out) xs i

abbrev pub arrival_at : List Exit → ℕ → Port
arrival_at xs i = arrival_from Local xs i
