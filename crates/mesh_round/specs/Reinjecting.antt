-- Dumped copies put back between rounds (this project's own).
use Rattle.std.specs.Prelude.{ℕ, List, is_some, if◌then◌else◌}
use Rattle.machine_desc.specs.declared.nets.NetPlan.{NetPlan}
use Rattle.machine_desc.specs.RightTables.{AreRight}
use Rattle.mesh_core.specs.declared.places.Did.{Did}
use Rattle.mesh_core.specs.declared.places.Did.TheVariants.{Moved, Idle}
use Rattle.mesh_core.specs.State.{State, IsMesh}
use Rattle.mesh_core.specs.PutBack.{put_back_of, after_put_back}
use Rattle.mesh_core.specs.Ledger.{Label, MeetsLedger}
use Rattle.mesh_round.specs.RoundFlow.{Flow, IsRound}

-- whether the first dumped copy can be put back: there is one, and the queue behind its output isn't full
abbrev pub put_back_answer : State → Did
put_back_answer s = if is_some (put_back_of s s.dumped) then Moved else Idle

-- A mesh is reached from another by rounds, each with its flow, and by putting first dumped copies back, in any order.
pub data HasPasses (patience turns : ℕ) (m : State) : State → Type 0 where
  none : HasPasses patience turns m m
  round : (flow : Flow) (k n : State) → HasPasses patience turns m k → IsMesh n → IsRound patience turns k flow n → HasPasses patience turns m n
  put_back : (k : State) → HasPasses patience turns m k → HasPasses patience turns m (after_put_back k)

-- A mesh is of some nets: its tables are right for them, and it meets their ledger.
abbrev pub IsOfNets : State → Type 0
IsOfNets s =
    (nets : List NetPlan) × (labels : ℕ → Label) × AreRight s.setup.machine s.setup.tables nets × MeetsLedger s nets labels
