-- A queue brought up as a link, at rest between rounds, and brought down.
use Rattle.std.specs.Prelude.{◌≡◌, ℕ, ◌+◌, ◌*◌, ◌-◌, ◌==◌, ◌≤◌, Bool, min, List, [], ◌++◌, map, length, All, Some, if◌then◌else◌, slice_get, slice_index_or, slice_set}
use Rattle.std.specs.List.{list_all}
use Rattle.spin_base.specs.declared.copies.McCopy.{McCopy}
use Rattle.link_queue.specs.declared.links.LinkEnds.{LinkEnds}
use Rattle.link_queue.specs.Ends.{IsTx, IsRx, cap_of, sending, taking}
use Rattle.link_queue.specs.TheRule.{put_of, IsFullNote}
use Rattle.link_queue.specs.Ups.{NoNotes, Rests}
use Rattle.mesh_run.specs.declared.queues.Rested.{Rested}
use Rattle.mesh_run.specs.declared.standing.Standing.{Standing}
use Rattle.mesh_run.specs.Standing.{HoldsAll}

-- both are ends of the link, and there is room for all that it can hold
pub record AreEnds (e : LinkEnds) : Type 0 where
  pub tx : IsTx e.link e.tx
  pub rx : IsRx e.link e.rx
  pub empty : e.room.items ≡ []
  pub spare : cap_of e.link ≤ e.room.spare

-- ---- places

-- A link that holds so many copies of a queue of this capacity has places for so many more, or as many as the queue, and never
-- more than these. With one place more than a round has turns it is full exactly when the queue is, since its one sender sends at
-- most one copy a turn (this project's own).
pub record HasPlaces (cap more held places : ℕ) : Type 0 where
  pub enough : min cap (held + more) ≤ places
  pub few : places ≤ cap

-- how many places a link is made with: twice as many as a round can fill, up to the capacity
abbrev pub places_for : ℕ → ℕ → ℕ → ℕ
places_for cap turns held = min cap (2 * (held + turns + 1))

-- how many places a link has left, and as good as endless ones where it has as many as its queue
abbrev pub free_places_of : ℕ → ℕ → ℕ → ℕ
free_places_of cap places held = if places == cap then 18446744073709551615 else places - held

-- A link of a queue of this capacity, with places for so many copies more, with the whole queue as its first list, and of which
-- nothing was sent, taken or noted yet.
pub record IsUp (cap more : ℕ) (queue : List McCopy) (e : LinkEnds) : Type 0 where
  pub ends : AreEnds e
  pub holds : HasPlaces cap more (length queue) (cap_of e.link)
  pub tx_new : NoNotes queue (sending e.tx)
  pub rx_new : NoNotes queue (taking e.rx)

-- a link for each queue, at the same places
pub record AreUp (cap more : ℕ) (queues : List (List McCopy)) (ends : List LinkEnds) : Type 0 where
  pub long : length ends ≡ length queues
  pub each : (i : ℕ) (q : List McCopy) (e : LinkEnds) → slice_get queues i ≡ Some q → slice_get ends i ≡ Some e → IsUp cap more q e

-- ---- after a round

-- What a link's ends tell of the copies that it holds: the first list and then what was sent is what was taken and then these, at
-- most as many as it can hold, and each note of Full fits.
pub record IsDown (e : LinkEnds) (after : List McCopy) : Type 0 where
  pub all : (sending e.tx).first ++ (sending e.tx).sent ≡ (taking e.rx).took ++ after
  pub bound : length after ≤ cap_of e.link
  pub noted : All (IsFullNote (cap_of e.link) (put_of (sending e.tx)) (taking e.rx).took) (sending e.tx).fulls

-- at the places of these links stands what they hold
abbrev pub DownTo : List LinkEnds → List (List McCopy) → Type 0
DownTo ends after = (i : ℕ) (e : LinkEnds) (q : List McCopy) → slice_get ends i ≡ Some e → IsDown e (slice_index_or after i q)

-- the queue of which a link's ends know that it was there first
abbrev pub queue_of_link : LinkEnds → List McCopy
queue_of_link e = (sending e.tx).first

-- whether a queue holds no copy
abbrev pub is_empty : List McCopy → Bool
is_empty copies = length copies == 0

-- a link that was up and has no more places than its queue
pub record WasUp (cap : ℕ) (e : LinkEnds) : Type 0 where
  pub ends : AreEnds e
  pub few : cap_of e.link ≤ cap

-- the link at a place rests, and holds so many copies
pub record RestsAt (ends : List LinkEnds) (place : ℕ) (old : LinkEnds) (after : Standing) (held : ℕ) : Type 0 where
  pub now : LinkEnds
  pub holds : HoldsAll (slice_set ends place now) after
  pub link : now.link ≡ old.link
  pub ends_are : AreEnds now
  pub rests : Rests (cap_of old.link) (sending old.tx) (taking old.rx) (sending now.tx) (taking now.rx) held

-- all links rest, each with what it holds
pub record RestAll (cap : ℕ) (before : List LinkEnds) (after : Standing) (rested : Rested) : Type 0 where
  pub now : List LinkEnds
  pub holds : HoldsAll now after
  pub long : length now ≡ length before
  pub up : AreUp cap rested.free (map queue_of_link now) now
  pub down : DownTo before (map queue_of_link now)
  pub quiet : rested.quiet ≡ list_all is_empty (map queue_of_link now)

-- a link at a place of which the queue is the same, with places for so many copies more
pub record UpAt (cap more : ℕ) (ends : List LinkEnds) (place : ℕ) (queue : List McCopy) (after : Standing) : Type 0 where
  pub now : LinkEnds
  pub holds : HoldsAll (slice_set ends place now) after
  pub up : IsUp cap more queue now

-- links with the same queues, and with places for so many copies more
pub record StayUp (cap more : ℕ) (before : List LinkEnds) (after : Standing) : Type 0 where
  pub now : List LinkEnds
  pub holds : HoldsAll now after
  pub up : AreUp cap more (map queue_of_link before) now
