-- The ends of the links between shares, dealt to the shares before a round and collected after it (this project's own).
use Rattle.std.specs.Prelude.{◌≡◌, ◌≢◌, ◌⊎◌, ℕ, ◌<◌, ◌^◌, List, map, length, Some, slice_get}
use Rattle.link_queue.specs.declared.links.Link.{Link}
use Rattle.link_queue.specs.declared.links.Tx.{Tx}
use Rattle.link_queue.specs.declared.links.Rx.{Rx}
use Rattle.link_queue.specs.declared.links.LinkEnds.{LinkEnds}
use Rattle.chip_node.specs.declared.ends.End.{End}
use Rattle.chip_node.specs.declared.ends.End.TheVariants.{Away, Sends, Takes}
use Rattle.mesh_run.specs.declared.homes.Cut.{Cut}
use Rattle.mesh_run.specs.declared.shares.Share.{Share}
use Rattle.mesh_run.specs.declared.standing.Standing.{Standing}
use Rattle.mesh_run.specs.Split.{end_at}
use Rattle.mesh_run.specs.Standing.{HoldsAll}

-- all of a share but the ends that it holds is the same
pub record SameButEnds (before after : Share) : Type 0 where
  pub from : after.from ≡ before.from
  pub to : after.to ≡ before.to
  pub moved : after.moved ≡ before.moved
  pub ends_long : length after.hold.ends.items ≡ length before.hold.ends.items
  pub unsent : after.hold.unsent ≡ before.hold.unsent
  pub dumps : after.hold.dumps ≡ before.hold.dumps
  pub deliveries : after.hold.deliveries ≡ before.hold.deliveries

abbrev pub AreSameButEnds : List Share → List Share → Type 0
AreSameButEnds before after =
    (length after ≡ length before) × ((k : ℕ) (s t : Share) → slice_get before k ≡ Some s → slice_get after k ≡ Some t → SameButEnds s t)

-- an end of this cut's link
abbrev pub IsOfCut : Cut → ℕ → ℕ → Type 0
IsOfCut c s q = (q ≡ c.queue) × ((s ≡ c.sender) ⊎ (s ≡ c.receiver))

-- no end of a cut's link is held there
abbrev pub IsUncut : List Cut → ℕ → ℕ → Type 0
IsUncut cuts s q = (l : ℕ) (c : Cut) → slice_get cuts l ≡ Some c → IsOfCut c s q → ⊥

-- Each cut's link has its ends in the shares of its sender and of its receiver.
abbrev pub AreDealt : List LinkEnds → List Cut → List Share → Type 0
AreDealt ends cuts shares =
    (l : ℕ) (c : Cut) (e : LinkEnds) → slice_get cuts l ≡ Some c → slice_get ends l ≡ Some e
    → (end_at shares c.sender c.queue ≡ Some (Sends (record { link = l; tx = e.tx }))) × (end_at shares c.receiver c.queue ≡ Some (Takes (record { link = l; rx = e.rx })))

-- the ends were dealt, and all else is as it was
pub record Deals (ends : List LinkEnds) (cuts : List Cut) (before after : List Share) : Type 0 where
  pub same : AreSameButEnds before after
  pub dealt : AreDealt ends cuts after
  pub others : (s q : ℕ) → IsUncut cuts s q → end_at after s q ≡ end_at before s q

-- the ends were collected, and nothing is held in their stead
pub record Collects (ends : List LinkEnds) (cuts : List Cut) (before after : List Share) : Type 0 where
  pub same : AreSameButEnds before after
  pub dealt : AreDealt ends cuts before
  pub gone : (l : ℕ) (c : Cut) → slice_get cuts l ≡ Some c → (end_at after c.sender c.queue ≡ Some Away) × (end_at after c.receiver c.queue ≡ Some Away)
  pub others : (s q : ℕ) → IsUncut cuts s q → end_at after s q ≡ end_at before s q

-- the links and the rooms of all ends, of which none is there
pub record HoldsNoEnds (ends : List LinkEnds) (s : Standing) : Type 0 where
  pub links : map (λ e. e.link) ends ≡ s.links.items
  pub rooms : map (λ e. e.room) ends ≡ s.rooms.items
  pub txs_long : length s.txs.items ≡ length ends
  pub rxs_long : length s.rxs.items ≡ length ends

-- both ends of a link are where its cut says, and are ends of it
pub record IsLaid (links : List Link) (shares : List Share) (l : ℕ) (c : Cut) : Type 0 where
  pub tx : Tx
  pub rx : Rx
  pub sends : end_at shares c.sender c.queue ≡ Some (Sends (record { link = l; tx = tx }))
  pub takes : end_at shares c.receiver c.queue ≡ Some (Takes (record { link = l; rx = rx }))

abbrev pub AreLaid : List Link → List Share → List Cut → Type 0
AreLaid links shares cuts = (l : ℕ) (c : Cut) → slice_get cuts l ≡ Some c → IsLaid links shares l c

-- the cuts are few, and of different queues, each between two shares that are there
pub record AreCuts (cuts : List Cut) (shares : List Share) : Type 0 where
  pub two : (l : ℕ) (c : Cut) → slice_get cuts l ≡ Some c → c.sender ≢ c.receiver
  pub senders : (l : ℕ) (c : Cut) → slice_get cuts l ≡ Some c → (e : End) × (end_at shares c.sender c.queue ≡ Some e)
  pub receivers : (l : ℕ) (c : Cut) → slice_get cuts l ≡ Some c → (e : End) × (end_at shares c.receiver c.queue ≡ Some e)
  pub apart : (k l : ℕ) (a b : Cut) → slice_get cuts k ≡ Some a → slice_get cuts l ≡ Some b → a.queue ≡ b.queue → k ≡ l
  pub few : length cuts < 2 ^ 32

-- All ends are collected: each link stands with both of them, with the same link and room.
pub record HoldsCollected (old : List LinkEnds) (cuts : List Cut) (before : List Share) (s : Standing) (after : List Share) : Type 0 where
  pub ends : List LinkEnds
  pub holds : HoldsAll ends s
  pub long : length ends ≡ length old
  pub links : map (λ e. e.link) ends ≡ map (λ e. e.link) old
  pub rooms : map (λ e. e.room) ends ≡ map (λ e. e.room) old
  pub collects : Collects ends cuts before after

-- an end stands at a place of a share, and all else is as it was
pub record PutsEnd (share queue : ℕ) (end : End) (before after : List Share) : Type 0 where
  pub same : AreSameButEnds before after
  pub here : end_at after share queue ≡ Some end
  pub others : (s q : ℕ) → ((s ≡ share) × (q ≡ queue) → ⊥) → end_at after s q ≡ end_at before s q
