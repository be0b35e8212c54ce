-- Splitting a mesh, and putting it together again (this project's own).
use Rattle.std.specs.Prelude.{◌≡◌, ◌≢◌, ◌⊎◌, ℕ, ◌+◌, ◌<◌, List, [], ◌++◌, length, All, Some, replicate, slice_get, slice_index_or, slice_set}
use Rattle.spin_base.specs.WithRoom.{WithRoom}
use Rattle.spin_base.specs.declared.copies.McCopy.{McCopy}
use Rattle.link_queue.specs.declared.links.LinkEnds.{LinkEnds}
use Rattle.mesh_core.specs.State.{State}
use Rattle.chip_node.specs.declared.ends.End.{End}
use Rattle.chip_node.specs.declared.ends.End.TheVariants.{Away, Own}
use Rattle.chip_node.specs.declared.holdings.Holdings.{Holdings}
use Rattle.mesh_run.specs.declared.homes.Cut.{Cut}
use Rattle.mesh_run.specs.declared.homes.Home.{Home}
use Rattle.mesh_run.specs.declared.shares.Share.{Share}
use Rattle.mesh_run.specs.declared.layout.Layout.{Layout}
use Rattle.mesh_run.specs.declared.splitting.SplitPlan.{SplitPlan}
use Rattle.mesh_run.specs.Crossing.{PutsEnd}
use Rattle.mesh_run.specs.Homes.{run_start}
use Rattle.mesh_run.specs.Queues.{AreUp}
use Rattle.mesh_run.specs.Split.{AreShared, HaveNoLogs, HoldLanes, HoldUnsent, cut_queues, end_at, unsent_at}
use Rattle.mesh_run.specs.Standing.{HoldsAll}

-- nothing is held
pub record IsEmptyHand (queues vertices : ℕ) (h : Holdings) : Type 0 where
  pub ends : h.ends.items ≡ replicate queues Away
  pub unsent : h.unsent.items ≡ replicate vertices []
  pub dumps : h.dumps.items ≡ []
  pub deliveries : h.deliveries.items ≡ []

-- shares of these runs of actors that hold nothing
pub record HoldNothing (runs : List ℕ) (queues vertices : ℕ) (shares : List Share) : Type 0 where
  pub long : length shares ≡ length runs
  pub from : (k : ℕ) (s : Share) → slice_get shares k ≡ Some s → s.from ≡ run_start runs k
  pub to : (k : ℕ) (s : Share) → slice_get shares k ≡ Some s → s.to ≡ slice_index_or runs k 0
  pub hands : All (λ s. IsEmptyHand queues vertices s.hold) shares

-- all cuts are of queues below a number
abbrev pub AreInside : ℕ → List Cut → Type 0
AreInside n cuts = All (λ c. c.queue < n) cuts

-- each queue has its homes among the shares, and each share a place for each queue and each vertex
pub record FitHomes (s : State) (homes : List Home) (shares : List Share) : Type 0 where
  pub long : length homes ≡ length s.inputs + length s.cores
  pub vertices : length s.unsent ≡ length s.cores
  pub senders : All (λ h. h.sender < length shares) homes
  pub receivers : All (λ h. h.receiver < length shares) homes
  pub ends_long : All (λ k. length k.hold.ends.items ≡ length homes) shares
  pub unsent_long : All (λ k. length k.hold.unsent.items ≡ length s.unsent) shares

-- How a mesh is split on a layout: with a link for each queue between two shares, and shares that hold nothing yet.
pub record IsSplitPlanOf (m : State) (l : Layout) (more : ℕ) (p : SplitPlan) : Type 0 where
  pub shared : AreShared m.setup l.runs.items p.shares.items
  pub nothing : HoldNothing l.runs.items (length l.homes.items) (length m.unsent) p.shares.items
  pub ends : List LinkEnds
  pub holds : HoldsAll ends p.standing
  pub up : AreUp m.setup.capacity more (cut_queues (m.inputs ++ m.cores) l.cuts.items) ends
  pub crossing : length p.crossing.items ≡ length l.cuts.items
  pub fits : FitHomes m l.homes.items p.shares.items

-- all of a mesh but its queues and unsent copies is the same
pub record SameButCopies (before after : State) : Type 0 where
  pub setup : after.setup ≡ before.setup
  pub hands : after.hands ≡ before.hands
  pub inputs_long : length after.inputs ≡ length before.inputs
  pub cores_long : length after.cores ≡ length before.cores
  pub unsent_long : length after.unsent ≡ length before.unsent
  pub delivered : after.delivered ≡ before.delivered
  pub dumped : after.dumped ≡ before.dumped

-- another queue stands at a place among all queues
pub record SetsQueue (place : ℕ) (queue : List McCopy) (before after : State) : Type 0 where
  pub same : SameButCopies before after
  pub unsent : after.unsent ≡ before.unsent
  pub queues : after.inputs ++ after.cores ≡ slice_set (before.inputs ++ before.cores) place queue

-- other unsent copies of a vertex stand in a mesh
pub record SetsUnsent (vertex : ℕ) (copies : List McCopy) (before after : State) : Type 0 where
  pub same : SameButCopies before after
  pub inputs : after.inputs ≡ before.inputs
  pub cores : after.cores ≡ before.cores
  pub unsent : after.unsent ≡ slice_set before.unsent vertex copies

-- a share with the same run, and with places for as many queues and vertices
pub record SameRun (before after : Share) : Type 0 where
  pub from : after.from ≡ before.from
  pub to : after.to ≡ before.to
  pub ends_long : length after.hold.ends.items ≡ length before.hold.ends.items
  pub unsent_long : length after.hold.unsent.items ≡ length before.hold.unsent.items

abbrev pub AreSameRuns : List Share → List Share → Type 0
AreSameRuns before after =
    (length after ≡ length before) × ((k : ℕ) (s t : Share) → slice_get before k ≡ Some s → slice_get after k ≡ Some t → SameRun s t)

-- the lane of a queue that no two shares are between stands in its share
abbrev pub MayPutLane : Home → ℕ → List McCopy → List Share → List Share → Type 0
MayPutLane home place copies before after = ((home.sender ≢ home.receiver) × (after ≡ before))
    ⊎ ((home.sender ≡ home.receiver) × (a : WithRoom McCopy) × (a.items ≡ copies) × PutsEnd home.sender place (Own a) before after)

-- the lane of a queue that no two shares are between moves back into a mesh
abbrev pub MayTakeLane : Home → ℕ → State → List Share → State → List Share → Type 0
MayTakeLane home place m before n after = ((home.sender ≢ home.receiver) × (n ≡ m) × (after ≡ before))
    ⊎ ((home.sender ≡ home.receiver) × (e : End) × (copies : List McCopy) × (end_at before home.sender place ≡ Some e) × PutsEnd home.sender place Away before after
    × ((a : WithRoom McCopy) → e ≡ Own a → copies ≡ a.items) × SetsQueue place copies m n)

-- all of a share but what its vertices did not send is the same
pub record SameButUnsent (before after : Share) : Type 0 where
  pub from : after.from ≡ before.from
  pub to : after.to ≡ before.to
  pub ends : after.hold.ends ≡ before.hold.ends
  pub unsent_long : length after.hold.unsent.items ≡ length before.hold.unsent.items
  pub dumps : after.hold.dumps ≡ before.hold.dumps
  pub deliveries : after.hold.deliveries ≡ before.hold.deliveries

abbrev pub AreSameButUnsent : List Share → List Share → Type 0
AreSameButUnsent before after =
    (length after ≡ length before) × ((k : ℕ) (s t : Share) → slice_get before k ≡ Some s → slice_get after k ≡ Some t → SameButUnsent s t)

-- other unsent copies stand at the place of a vertex in a share, and all else is as it was
pub record PutsUnsent (share vertex : ℕ) (copies : List McCopy) (before after : List Share) : Type 0 where
  pub same : AreSameButUnsent before after
  pub here : unsent_at after share vertex ≡ copies
  pub others : (s v : ℕ) → ((s ≡ share) × (v ≡ vertex) → ⊥) → unsent_at after s v ≡ unsent_at before s v

-- the shares hold the same, and have the same runs
abbrev pub AreSameHolds : List Share → List Share → Type 0
AreSameHolds before after = (length after ≡ length before)
    × ((k : ℕ) (s t : Share) → slice_get before k ≡ Some s → slice_get after k ≡ Some t → (t.from ≡ s.from) × (t.to ≡ s.to) × (t.hold ≡ s.hold))

-- what no two shares are between moved from a mesh into shares that held nothing
pub record MovesIn (m : State) (homes : List Home) (before : List Share) (left : State) (after : List Share) : Type 0 where
  pub same : SameButCopies m left
  pub runs : AreSameRuns before after
  pub no_logs : HaveNoLogs after
  pub lanes : HoldLanes (m.inputs ++ m.cores) homes after
  pub vertices : HoldUnsent (length m.inputs) m.unsent homes after

-- What shares hold moved back into a mesh: whatever their lanes and vertices hold stands there, and at the other places what stood there.
pub record MovesOut (homes : List Home) (shares : List Share) (left m : State) : Type 0 where
  pub same : SameButCopies left m
  pub lanes : (queues : List (List McCopy)) (q : ℕ) (h : Home) → HoldLanes queues homes shares → slice_get homes q ≡ Some h → h.sender ≡ h.receiver
      → slice_index_or (m.inputs ++ m.cores) q [] ≡ slice_index_or queues q []
  pub others : (q : ℕ) (h : Home) → slice_get homes q ≡ Some h → h.sender ≢ h.receiver → slice_index_or (m.inputs ++ m.cores) q [] ≡ slice_index_or (left.inputs ++ left.cores) q []
  pub vertices : (unsent : List (List McCopy)) → length unsent ≡ length left.unsent → HoldUnsent (length left.inputs) unsent homes shares → m.unsent ≡ unsent
