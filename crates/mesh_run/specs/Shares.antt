-- One worker's share of a mesh, and what its turns of a round do. The definitions are this project's own.
use Rattle.std.specs.Prelude.{◌≡◌, ◌≢◌, ◌⊎◌, ℕ, ◌+◌, ◌*◌, ◌<◌, ◌≤◌, Bool, true, false, List, [], length, Some, All}
use Rattle.spin_base.specs.declared.routes.Out.{Out}
use Rattle.machine_desc.specs.Live.{chip_of}
use Rattle.mesh_core.specs.State.{Setup}
use Rattle.link_queue.specs.declared.links.Link.{Link}
use Rattle.chip_node.specs.declared.holdings.Turn.{Turn}
use Rattle.chip_node.specs.declared.holdings.Turn.TheVariants.{Moved, Nothing, Waits}
use Rattle.chip_node.specs.Going.{AreEndsOf, Goes, HoldsSender, Stays}
use Rattle.chip_node.specs.Items.{Item, took, served, sent, got, injection_place}
use Rattle.mesh_run.specs.declared.shares.Share.{Share}
use Rattle.mesh_run.specs.Floors.{grid_size}
use Rattle.mesh_run.specs.Played.{port_count, place_behind, AreTurns, IsLiveIndex}

-- The places of actors: the router of the chip of index i has place 2 * i, and its bank the next one.
abbrev pub router_place : ℕ → ℕ
router_place i = 2 * i

abbrev pub bank_place : ℕ → ℕ
bank_place i = 2 * i + 1

-- the place of the actor that did it
abbrev pub actor_of : Item → ℕ
actor_of (took i port k) = router_place i
actor_of (served i c place s) = router_place i
actor_of (sent i v k) = bank_place i
actor_of (got i v place k) = bank_place i

-- a place of a run of places
pub record IsInRun (from to a : ℕ) : Type 0 where
  pub above : from ≤ a
  pub below : a < to

-- all was done by actors of the share
abbrev pub AreOf : ℕ → ℕ → List Item → Type 0
AreOf from to items = All (λ x. IsInRun from to (actor_of x)) items

-- A share of a mesh: it has an end, or none, of each queue, and a list of unsent copies for each vertex. Of each of its live actors it
-- holds the sending ends by which the actor sends. Ends of links are ends of the links at their places.
pub record IsShareOf (u : Setup) (links : List Link) (s : Share) : Type 0 where
  pub ends_long : length s.hold.ends.items ≡ port_count u + length u.spots
  pub unsent_long : length s.hold.unsent.items ≡ length u.spots
  pub within : s.to ≤ 2 * grid_size u
  pub routers : (i : ℕ) (o : Out) (q : ℕ) → IsLiveIndex u i → IsInRun s.from s.to (router_place i) → place_behind u (chip_of u.machine i) o ≡ Some q → HoldsSender s.hold.ends.items q
  pub banks : (i : ℕ) → IsLiveIndex u i → IsInRun s.from s.to (bank_place i) → HoldsSender s.hold.ends.items (injection_place i)
  pub ends : AreEndsOf links s.hold.ends.items

-- What some turns of a share's actors do: these items, all of them by its own actors.
pub record SharePlays (u : Setup) (patience turns : ℕ) (before : Share) (items : List Item) (after : Share) : Type 0 where
  pub from : after.from ≡ before.from
  pub to : after.to ≡ before.to
  pub goes : Goes u.capacity patience before.hold items after.hold
  pub own : AreOf before.from before.to items
  pub turns_are : AreTurns u turns items

-- Whether a copy moved, or one had moved before, is noted.
abbrev pub IsNoted : Bool → List Item → Bool → Type 0
IsNoted before items true = (before ≡ true) ⊎ (items ≢ [])
IsNoted before items false = (before ≡ false) × (items ≡ [])

-- what so many turns do to a share
pub record PlaysTurns (u : Setup) (patience turns : ℕ) (before after : Share) : Type 0 where
  pub items : List Item
  pub plays : SharePlays u patience turns before items after
  pub noted : IsNoted before.moved items after.moved

-- what the turns of a round do to a share
pub record PlaysRound (u : Setup) (patience turns : ℕ) (before after : Share) : Type 0 where
  pub items : List Item
  pub plays : SharePlays u patience turns before items after
  pub noted : IsNoted false items after.moved

-- The turns of a round, after which it is still a share of the mesh.
abbrev pub PlaysAndStays : Setup → List Link → ℕ → ℕ → Share → Share → Type 0
PlaysAndStays u links patience turns before after = PlaysRound u patience turns before after × IsShareOf u links after

-- what one turn of the actor at a place does to a share
pub record PlaysOne (u : Setup) (patience at : ℕ) (before after : Share) : Type 0 where
  pub items : List Item
  pub plays : SharePlays u patience 1 before items after
  pub of_it : All (λ x. actor_of x ≡ at) items
  pub noted : IsNoted before.moved items after.moved

-- a copy was moved by the actor at a place
pub record MovesAt (u : Setup) (patience at : ℕ) (before after : Share) : Type 0 where
  pub items : List Item
  pub goes : Goes u.capacity patience before.hold items after.hold
  pub of_it : All (λ x. actor_of x ≡ at) items
  pub turns_are : AreTurns u 1 items
  pub some : items ≢ []

abbrev pub DoesAt : Setup → ℕ → ℕ → Share → Turn → Share → Type 0
DoesAt u patience at before Moved after = MovesAt u patience at before after
DoesAt u patience at before Nothing after = Stays before.hold after.hold
DoesAt u patience at before Waits after = Stays before.hold after.hold

-- What the actor at a place does in a turn.
pub record ActsAt (u : Setup) (patience at : ℕ) (before : Share) (turn : Turn) (after : Share) : Type 0 where
  pub from : after.from ≡ before.from
  pub to : after.to ≡ before.to
  pub moved : after.moved ≡ before.moved
  pub does : DoesAt u patience at before turn after
