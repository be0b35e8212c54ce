-- What a round on threads asks of a mesh, and what it is (this project's own).
use Rattle.std.specs.Prelude.{◌≢◌, ◌⊎◌, ℕ, ◌<◌, ◌==◌, Bool, ◌&&◌, List, [], length, slice_index_or}
use Rattle.std.specs.List.{list_all}
use Rattle.spin_base.specs.declared.copies.McCopy.{McCopy}
use Rattle.chip_node.specs.Items.{Item}
use Rattle.mesh_core.specs.State.{State, Queue, IsMesh}
use Rattle.mesh_run.specs.declared.layout.Layout.{Layout}
use Rattle.mesh_run.specs.Layouts.{IsLayoutOf}
use Rattle.mesh_round.specs.RoundFlow.{Flow, held_in, HasNoHand, IsRound, HasMoved}

-- a queue holds a copy, or a vertex has one that it did not send yet
abbrev pub HasSome : State → Type 0
HasSome s = ((q : Queue) × (held_in s q ≢ [])) ⊎ ((v : ℕ) × (slice_index_or s.unsent v [] ≢ []))

-- whether a queue holds no copy
abbrev pub holds_none : List McCopy → Bool
holds_none copies = length copies == 0

-- whether no queue holds a copy and no vertex has one that it did not send
abbrev pub has_none : State → Bool
has_none s = list_all holds_none s.inputs && (list_all holds_none s.cores && list_all holds_none s.unsent)

-- One mesh leads to another by a round in which routers and banks did this: with some flow, in which a copy moves where anything was
-- done.
pub record LeadsByFlow (patience turns : ℕ) (items : List Item) (m n : State) : Type 0 where
  pub flow : Flow
  pub round : IsRound patience turns m flow n
  pub moved : items ≢ [] → HasMoved m flow

-- One mesh leads to another by a round, for a patience and a number of turns: with some flow, in which a copy moves where there
-- is one and turns are given.
pub record LeadsByRound (patience turns : ℕ) (m n : State) : Type 0 where
  pub flow : Flow
  pub round : IsRound patience turns m flow n
  pub moved : 0 < turns → HasSome m → HasMoved m flow

-- A mesh may go on by rounds: no router has a copy in hand.
pub record MayGoOn (s : State) : Type 0 where
  pub mesh : IsMesh s
  pub no_hand : HasNoHand s

-- a mesh, and how its setup is shared
pub record MeshOnLayout : Type 0 where
  pub mesh : State
  pub layout : Layout

-- A mesh may go on by rounds on its layout.
pub record IsReadyOn (m : State) (l : Layout) : Type 0 where
  pub ready : MayGoOn m
  pub layout : IsLayoutOf m.setup l
