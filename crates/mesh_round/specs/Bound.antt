-- How often copies of a job's packets move at most: a run takes no more rounds, since each of them moves one (this project's own).
use Rattle.std.specs.Prelude.{ℕ, ◌+◌, ◌≤◌, List, Option, Some, None, length, slice_get}
use Rattle.std.proofs.Common.{suc}
use Rattle.std.specs.List.{sum_by}
use Rattle.spin_base.specs.declared.copies.Packet.{Packet}
use Rattle.machine_desc.specs.declared.nets.NetPlan.{NetPlan}
use Rattle.machine_desc.specs.RightTables.{AreRight}
use Rattle.mesh_core.specs.Opened.{MeetsJobLedger}
use Rattle.mesh_core.specs.State.{State}
use Rattle.mesh_round.specs.RoundFlow.{HasMoved, HasRounds, none, more}

-- A packet is sent once; the router of each chip of its net's tree takes it once; and each target gets it once. The chips of a tree
-- are its root and one for each edge.
abbrev pub moves_of_packet : Option NetPlan → ℕ
moves_of_packet (Some net) = 1 + (1 + length net.tree.edges) + length net.targets
moves_of_packet None = 0

-- over all packets of a job
abbrev pub most_moves : List NetPlan → List Packet → ℕ
most_moves nets packets = sum_by (λ (p : Packet). moves_of_packet (slice_get nets p.net)) packets

-- how many rounds lead from one mesh to another
abbrev pub rounds_in : {patience turns : ℕ} {m n : State} → HasRounds patience turns m n → ℕ
rounds_in none = 0
rounds_in (more f k n rounds after is) = suc (rounds_in rounds)

-- in each of the rounds a copy moves
abbrev pub MoveEach : {patience turns : ℕ} {m n : State} → HasRounds patience turns m n → Type 0
MoveEach none = Unit {0}
MoveEach (more f k n rounds after is) = MoveEach rounds × HasMoved k f

-- One mesh leads to another by rounds in each of which a copy moves.
pub record HasMovingRounds (patience turns : ℕ) (m n : State) : Type 0 where
  pub rounds : HasRounds patience turns m n
  pub each : MoveEach rounds

-- One mesh leads to another by at most so many rounds.
pub record LeadsInFew (patience turns most : ℕ) (m n : State) : Type 0 where
  pub rounds : HasRounds patience turns m n
  pub few : rounds_in rounds ≤ most

-- By at most as many rounds as copies of the job's packets can move, whatever job it is of which the mesh meets the ledger.
abbrev pub LeadsSoon : ℕ → ℕ → State → State → Type 0
LeadsSoon patience turns m n =
    (nets : List NetPlan) (packets : List Packet) → AreRight m.setup.machine m.setup.tables nets → MeetsJobLedger m nets packets → LeadsInFew patience turns (most_moves nets packets) m n
