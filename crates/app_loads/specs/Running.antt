-- What draining does to a host (this project's own).
use Rattle.std.specs.Prelude.{◌≡◌, ◌≢◌, ℕ, ◌<◌, List, [], ◌∷◌, ◌++◌, Contains, Option, Some, IfSome, length, slice_get, slice_set}
use Rattle.std.specs.BTreeMap.{BTreeMap, get}
use Rattle.std.specs.Ordering.{nat_cmp}
use Rattle.machine_desc.specs.RightTables.{IsKeyOf}
use Rattle.mesh_core.specs.State.{Setup, State, IsMesh}
use Rattle.mesh_drain.specs.Draining.{AreRoutedAlike, BringsAlways, IsMoved, IsReachedDropless, MaySend, MeetsSomeLedger, SendAlone}
use Rattle.mesh_core.specs.Expected.{NothingWaits}
use Rattle.spin_base.specs.declared.blocks.Block.{Block}
use Rattle.spin_base.specs.declared.copies.Delivery.{Delivery}
use Rattle.spin_base.specs.declared.copies.McCopy.{McCopy}
use Rattle.app_loads.specs.declared.arrivals.Arrival.{Arrival}
use Rattle.app_loads.specs.Groups.{deliveries_at, sent_of}
use Rattle.app_loads.specs.Earlier.{with_earlier}
use Rattle.app_loads.specs.Host.{Host}
use Rattle.app_loads.specs.declared.known.KnownBlock.{KnownBlock}
use Rattle.app_loads.specs.declared.loaded.LoadedApp.{LoadedApp}

-- A host's mesh was moved, as a drain moves it, and all else is as it was.
pub record HasMovedMesh (old new : Host) : Type 0 where
  pub mesh : IsMoved old.mesh new.mesh
  pub others : new ≡ record old { mesh = new.mesh }

-- a block of a net of one of the applications, with this key
abbrev pub IsBlockWith : List LoadedApp → ℕ → Block → Type 0
IsBlockWith apps key block = (app : LoadedApp) × Contains apps app × Contains app.blocks block × IsKeyOf block key

-- any two keys of a block of one of the applications are alike
abbrev pub AreAlikeInBlocks : Setup → List LoadedApp → Type 0
AreAlikeInBlocks u apps = (block : Block) (key other : ℕ) → IsBlockWith apps key block → IsKeyOf block other → AreRoutedAlike u key other

-- Each copy of a mesh has its place, and where senders are known, they alone have packets unsent, and no copy waits. Keys of one block
-- are alike.
pub record CanDrain (mesh : State) (senders : Option (List ℕ)) (apps : List LoadedApp) : Type 0 where
  pub kept : MeetsSomeLedger mesh
  pub known : IfSome senders (λ vertices. SendAlone vertices mesh)
  pub alike : AreAlikeInBlocks mesh.setup apps

-- Each copy of a mesh with these earlier deliveries has its place. No copy waits, and none was delivered or dropped but earlier.
pub record IsClean (earlier : List Delivery) (s : State) : Type 0 where
  pub kept : MeetsSomeLedger (with_earlier earlier s)
  pub quiet : NothingWaits s
  pub none_delivered : s.delivered ≡ []
  pub none_dumped : s.dumped ≡ []

-- A clean mesh has the vertex, and keys of one block are alike.
pub record CanSendAll (earlier : List Delivery) (s : State) (v : ℕ) (apps : List LoadedApp) : Type 0 where
  pub clean : IsClean earlier s
  pub there : v < length s.setup.spots
  pub alike : AreAlikeInBlocks s.setup apps

-- A clean mesh has the vertex, which has a packet unsent.
pub record HasSomeUnsent (earlier : List Delivery) (s : State) (v : ℕ) : Type 0 where
  pub clean : IsClean earlier s
  pub there : v < length s.setup.spots
  pub some : slice_get s.unsent v ≢ Some []

-- This copy is the first one.
pub record HasFirstUnsent (earlier : List Delivery) (s : State) (v : ℕ) (copy : McCopy) : Type 0 where
  pub clean : IsClean earlier s
  pub there : v < length s.setup.spots
  pub first : (rest : List McCopy) × (slice_get s.unsent v ≡ Some (copy ∷ rest))

-- The parts are those of a mesh, and the same is known of its senders.
pub record AreKnownIn (parts : State) (senders : Option (List ℕ)) : Type 0 where
  pub mesh : IsMesh parts
  pub known : IfSome senders (λ vertices. SendAlone vertices parts)

-- so many deliveries came behind others, and so they come whenever the vertex sends a packet with a key alike to this one
pub record HasBroughtMore (before after : List Delivery) (u : Setup) (v key count : ℕ) : Type 0 where
  pub come : List Delivery
  pub is : after ≡ before ++ come
  pub long : length come ≡ count
  pub always : BringsAlways u v key come

-- whenever a vertex may send a packet with a key of this block first, it comes to these places by events of which none drops a copy
abbrev pub Comes : Setup → ℕ → List Arrival → Block → Type 0
Comes u v arrivals block =
    (s : State) (k : McCopy) (rest : List McCopy) → MaySend s → s.setup ≡ u → slice_get s.unsent v ≡ Some (k ∷ rest) → IsKeyOf block k.key →
    IsReachedDropless s (record s { unsent = slice_set s.unsent v rest; delivered = s.delivered ++ deliveries_at arrivals (sent_of k) })

-- Keys of one block are alike, and of each block that has places, it is known that the vertex's packets with its keys come there.
pub record AreKnown (u : Setup) (v : ℕ) (apps : List LoadedApp) (known : BTreeMap ℕ KnownBlock) : Type 0 where
  pub alike : AreAlikeInBlocks u apps
  pub come : (key : ℕ) (it : KnownBlock) → get nat_cmp known key ≡ Some it → Comes u v it.arrivals it.block

-- it is known of a block, which has the key
pub record IsKnownOf (known : BTreeMap ℕ KnownBlock) (key : ℕ) (it : KnownBlock) : Type 0 where
  pub first : ℕ
  pub is : get nat_cmp known first ≡ Some it
  pub has : IsKeyOf it.block key
