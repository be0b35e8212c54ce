-- What the checker's functions keep and answer.
use Rattle.std.specs.Prelude.{◌≡◌, ◌≢◌, ℕ, ◌*◌, ◌<◌, List, [], length, Option, Some, None, slice_get, slice_index_or}
use Rattle.std.specs.Option.{option_map_or}
use Rattle.spin_base.specs.declared.blocks.Block.{Block}
use Rattle.spin_base.specs.declared.blocks.ChipTable.{ChipTable}
use Rattle.spin_base.specs.declared.blocks.Entry.{Entry}
use Rattle.spin_base.specs.declared.chips.Chip.{Chip}
use Rattle.spin_base.specs.declared.chips.Port.{Port}
use Rattle.spin_base.specs.declared.routes.Route.{Route}
use Rattle.machine_desc.specs.Description.{Description}
use Rattle.machine_desc.specs.Live.{index_of}
use Rattle.machine_desc.specs.declared.nets.NetPlan.{NetPlan}
use Rattle.table_load.specs.declared.tables.Image.{Image}
use Rattle.table_load.specs.Memories.{rows_of_index}
use Rattle.net_tables.specs.Marks.{IsRouted, TellsPorts, TellsRoutes}
use Rattle.net_tables.specs.PlainTable.{HasChip}
use Rattle.plan_check.specs.declared.flaws.Flaw.{Flaw}
use Rattle.plan_check.specs.declared.flaws.Flaw.TheVariants.{Wrong, Split}
use Rattle.plan_check.specs.declared.verdicts.Verdict.{Verdict}
use Rattle.plan_check.specs.declared.verdicts.Verdict.TheVariants as verdicts
use Rattle.plan_check.specs.Verdicts.{GetsRoute, IsSplitAt, IsFine, IsWrong, IsFineAll, rows_for}

-- the entries of the table at a place, and none where there is no table
abbrev pub entries_at : List ChipTable → ℕ → List Entry
entries_at tables place = option_map_or (λ (t : ChipTable). t.entries) (slice_get tables place) []

-- the board has, for each index, the place of the table of the chip of that index
abbrev pub TellsTables : ℕ → List ChipTable → List ℕ → Type 0
TellsTables height tables places =
    (i : ℕ) (d : ℕ) → i < length places → entries_at tables (slice_index_or places i d) ≡ rows_of_index height tables i

-- What is amiss where a block's keys get a route in place of the wanted one.
abbrev pub IsFlawBy : Route → Route → Option Flaw → Type 0
IsFlawBy got wanted None = wanted ≡ got
IsFlawBy got wanted (Some Wrong) = got ≢ wanted
IsFlawBy got wanted (Some (Split place)) = ⊥

-- What is amiss with a block in the rows of a chip, where its keys are to get the wanted route.
abbrev pub IsAmiss : Block → List Entry → Port → Route → Option Flaw → Type 0
IsAmiss b rows port wanted None = GetsRoute b rows port wanted
IsAmiss b rows port wanted (Some Wrong) = (r : Route) × GetsRoute b rows port r × (r ≢ wanted)
IsAmiss b rows port wanted (Some (Split place)) = IsSplitAt b rows place

-- The same at a chip where the block's packets come in at this port, or come in nowhere, and then nothing is amiss.
abbrev pub IsAmissAt : Block → List Entry → Option Port → Route → Option Flaw → Type 0
IsAmissAt b rows (Some port) wanted flaw = IsAmiss b rows port wanted flaw
IsAmissAt b rows None wanted flaw = flaw ≡ None

-- The boards have, for each index, the port at which the net's packets come in at the chip of that index, and the outputs
-- that the net's tree wants there.
pub record AreBoardsOf (m : Description) (net : NetPlan) (ports : List (Option Port)) (routes : List Route) : Type 0 where
  pub routed : IsRouted m net
  pub ports_long : length ports ≡ m.width * m.height
  pub routes_long : length routes ≡ m.width * m.height
  pub comes_in : TellsPorts m net.tree.root net.tree.edges ports
  pub outputs : TellsRoutes m net.tree.edges net.targets routes

-- What is amiss with a net at a chip of its tree.
abbrev pub IsFlaw : Description → Image → NetPlan → Chip → Flaw → Type 0
IsFlaw m v net c Wrong = IsWrong m v net c
IsFlaw m v net c (Split place) = IsSplitAt net.block (rows_for m v c) place

-- the net is fine at the chips of its tree of lesser indices
abbrev pub IsFineBelow : Description → Image → NetPlan → ℕ → Type 0
IsFineBelow m v net index = (d : Chip) → HasChip m net d → index_of m d < index → IsFine m v net d

-- What is amiss with a net at the chip of the least index at which it is not fine.
abbrev pub IsFirstFlaw : Description → Image → NetPlan → Option (Chip × Flaw) → Type 0
IsFirstFlaw m v net None = IsFineAll m v net
IsFirstFlaw m v net (Some (c, flaw)) = HasChip m net c × IsFlaw m v net c flaw × IsFineBelow m v net (index_of m c)

-- what a verdict says of a flaw
abbrev pub verdict_on : ℕ → Chip → ℕ → Flaw → Verdict
verdict_on net c key Wrong = verdicts.Wrong net c key
verdict_on net c key (Split place) = verdicts.Split net c place
