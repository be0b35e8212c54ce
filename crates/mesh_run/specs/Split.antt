-- A mesh that is split into shares, with links between them (this project's own).
use Rattle.std.specs.Prelude.{◌≡◌, ◌≢◌, ◌⊎◌, ℕ, ◌+◌, ◌<◌, List, [], map, length, Option, Some, None, All, slice_get, slice_index_or}
use Rattle.spin_base.specs.declared.copies.McCopy.{McCopy}
use Rattle.spin_base.specs.WithRoom.{WithRoom}
use Rattle.mesh_core.specs.State.{Setup}
use Rattle.chip_node.specs.declared.ends.End.{End}
use Rattle.chip_node.specs.declared.ends.End.TheVariants.{Away, Own}
use Rattle.mesh_run.specs.declared.homes.Cut.{Cut}
use Rattle.mesh_run.specs.declared.homes.Home.{Home}
use Rattle.mesh_run.specs.declared.shares.Share.{Share}
use Rattle.mesh_run.specs.Homes.{run_start}
use Rattle.mesh_run.specs.Played.{port_count}

-- what the share of a number holds of the queue at a place
abbrev pub end_in : Option Share → ℕ → Option End
end_in None q = None
end_in (Some s) q = slice_get s.hold.ends.items q

abbrev pub end_at : List Share → ℕ → ℕ → Option End
end_at shares s q = end_in (slice_get shares s) q

-- what the share of a number holds unsent of a vertex
abbrev pub unsent_in : Option Share → ℕ → List McCopy
unsent_in None v = []
unsent_in (Some s) v = slice_index_or s.hold.unsent.items v []

abbrev pub unsent_at : List Share → ℕ → ℕ → List McCopy
unsent_at shares s v = unsent_in (slice_get shares s) v

-- ---- which share has what

-- The shares have the runs of actors, which end at these places, and a place for each queue and each vertex.
pub record AreShared (u : Setup) (ends : List ℕ) (shares : List Share) : Type 0 where
  pub long : length shares ≡ length ends
  pub from : (k : ℕ) (s : Share) → slice_get shares k ≡ Some s → s.from ≡ run_start ends k
  pub to : (k : ℕ) (s : Share) → slice_get shares k ≡ Some s → s.to ≡ slice_index_or ends k 0
  pub ends_long : (k : ℕ) (s : Share) → slice_get shares k ≡ Some s → length s.hold.ends.items ≡ port_count u + length u.spots
  pub unsent_long : (k : ℕ) (s : Share) → slice_get shares k ≡ Some s → length s.hold.unsent.items ≡ length u.spots

-- ---- between rounds

-- A queue that has its sender and its receiver in one share is a lane there, with these copies. No share holds anything else of a queue.
pub record HoldLanes (queues : List (List McCopy)) (homes : List Home) (shares : List Share) : Type 0 where
  pub lanes : (q : ℕ) (h : Home) → slice_get homes q ≡ Some h → h.sender ≡ h.receiver
      → (a : WithRoom McCopy) × (end_at shares h.sender q ≡ Some (Own a)) × (a.items ≡ slice_index_or queues q [])
  pub away : (q : ℕ) (h : Home) (s : ℕ) → slice_get homes q ≡ Some h → s < length shares → (s ≢ h.sender) ⊎ (h.sender ≢ h.receiver) → end_at shares s q ≡ Some Away

-- What a vertex did not send is held where its queue is received, and nowhere else. The vertices' queues stand behind those of so many ports.
pub record HoldUnsent (ports : ℕ) (unsent : List (List McCopy)) (homes : List Home) (shares : List Share) : Type 0 where
  pub here : (v : ℕ) (h : Home) → slice_get homes (ports + v) ≡ Some h → unsent_at shares h.receiver v ≡ slice_index_or unsent v []
  pub nowhere_else : (v : ℕ) (h : Home) (s : ℕ) → slice_get homes (ports + v) ≡ Some h → s ≢ h.receiver → unsent_at shares s v ≡ []

-- nothing is logged in the shares
abbrev pub HaveNoLogs : List Share → Type 0
HaveNoLogs shares = All (λ s. (s.hold.dumps.items ≡ []) × (s.hold.deliveries.items ≡ [])) shares

-- the queues that are links, in order of the cuts
abbrev pub cut_queues : List (List McCopy) → List Cut → List (List McCopy)
cut_queues queues cuts = map (λ (c : Cut). slice_index_or queues c.queue []) cuts
