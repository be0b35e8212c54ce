-- A mesh that is split, between rounds and over one (this project's own).
use Rattle.std.specs.Prelude.{◌≡◌, ℕ, Bool, false, List, ◌++◌, length}
use Rattle.link_queue.specs.declared.links.LinkEnds.{LinkEnds}
use Rattle.mesh_core.specs.State.{State}
use Rattle.chip_node.specs.Items.{Item}
use Rattle.mesh_run.specs.declared.raised.RaisedMesh.{RaisedMesh}
use Rattle.mesh_run.specs.Gathering.{HasRoomForLogs}
use Rattle.mesh_run.specs.Layouts.{IsLayoutOf}
use Rattle.mesh_run.specs.Played.{IsPlayedBy, port_count}
use Rattle.mesh_run.specs.Queues.{AreUp}
use Rattle.mesh_run.specs.Shares.{IsNoted}
use Rattle.mesh_run.specs.Split.{AreShared, HaveNoLogs, HoldLanes, HoldUnsent, cut_queues}
use Rattle.mesh_run.specs.Standing.{HoldsAll}

-- A mesh is split, and stands there between rounds. `more` is for how many copies more its links have places at least.
pub record IsRaisedFrom (m : State) (more : ℕ) (r : RaisedMesh) : Type 0 where
  pub setup : r.parts.setup ≡ m.setup
  pub hands : r.parts.hands ≡ m.hands
  pub inputs_long : length r.parts.inputs ≡ length m.inputs
  pub cores_long : length r.parts.cores ≡ length m.cores
  pub unsent_long : length r.parts.unsent ≡ length m.unsent
  pub laid : IsLayoutOf m.setup r.layout.now
  pub shared : AreShared m.setup r.layout.now.runs.items r.shares.items
  pub lanes : HoldLanes (m.inputs ++ m.cores) r.layout.now.homes.items r.shares.items
  pub unsent : HoldUnsent (port_count m.setup) m.unsent r.layout.now.homes.items r.shares.items
  pub ends : List LinkEnds
  pub holds : HoldsAll ends r.standing
  pub up : AreUp m.setup.capacity more (cut_queues (m.inputs ++ m.cores) r.layout.now.cuts.items) ends
  pub crossing : length r.crossing.items ≡ length r.layout.now.cuts.items
  pub no_logs : HaveNoLogs r.shares.items
  pub delivered : r.logs.delivered.items ≡ m.delivered
  pub dumped : r.logs.dumped.items ≡ m.dumped

-- the same, with room for all that a round may log
pub record IsRoomyFrom (m : State) (more : ℕ) (r : RaisedMesh) : Type 0 where
  pub raised : IsRaisedFrom m more r
  pub room : HasRoomForLogs r.shares.items r.logs

-- A round on threads leads from a mesh to another, which is split so afterwards, and it is noted whether a copy moved.
pub record PlaysTo (patience turns : ℕ) (m : State) (moved : Bool) (r : RaisedMesh) : Type 0 where
  pub mesh : State
  pub items : List Item
  pub raised : IsRaisedFrom mesh 0 r
  pub played : IsPlayedBy patience turns items m mesh
  pub noted : IsNoted false items moved
