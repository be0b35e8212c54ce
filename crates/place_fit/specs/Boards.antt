-- How far the chips of a machine are filled, and which cores a board has.
use Rattle.std.specs.Prelude.{◌≡◌, ◌≢◌, ℕ, ◌+◌, ◌-◌, ◌<◌, ◌≤◌, ◌==◌, ◌&&◌, ◌||◌, Bool, false, not, List, length, Some, MatchOption, All, slice_get, slice_set, slice_index, if◌then◌else◌}
use Rattle.std.specs.Int.{bit_at}
use Rattle.std.specs.List.{list_any}
use Rattle.spin_base.specs.declared.chips.Chip.{Chip}
use Rattle.spin_base.specs.declared.chips.Spot.{Spot}
use Rattle.spin_base.specs.Equality.{chip_eq, spot_eq}
use Rattle.machine_desc.specs.declared.trees.Edge.{Edge}
use Rattle.machine_desc.specs.Description.{Description}
use Rattle.machine_desc.specs.Live.{is_usable}
use Rattle.app_graph.specs.declared.graphs.Vertex.{Vertex}
pub use Rattle.place_fit.specs.Cores.{AreCores, IsJoined, IsParted, room_left}
use Rattle.place_fit.specs.declared.boards.Board.{Board}
use Rattle.place_fit.specs.declared.boards.Placed.{Placed}
use Rattle.place_fit.specs.Curve.{IsCurveLevel}
use Rattle.place_fit.specs.Placement.{core_spot, HasDeviceRoom, device_spot}

-- ---- which cores a board has

-- A board has the cores that are usable on a machine: of each chip of the curve whose square holds the grid. A chip has the
-- machine's memory.
pub record AreFreeOn (m : Description) (b : Board) : Type 0 where
  pub level : IsCurveLevel m b.level
  pub sdram : b.sdram ≡ m.sdram
  pub free : (q : ℕ) (c : Chip) → slice_get b.chips q ≡ Some c → AreCores (is_usable m) c (slice_index b.cores.items q)

-- two machines with one grid, and as much memory of each chip
pub record HaveOneGrid (m n : Description) : Type 0 where
  pub width : n.width ≡ m.width
  pub height : n.height ≡ m.height
  pub sdram : n.sdram ≡ m.sdram

-- The second machine has the usable cores of the first but for these spots.
pub record IsWithout (spots : List Spot) (m n : Description) : Type 0 where
  pub grid : HaveOneGrid m n
  pub usable : (s : Spot) → is_usable n s ≡ (is_usable m s && not (list_any (spot_eq s) spots))

-- The second machine has the usable cores of the first, and these spots.
pub record IsWith (spots : List Spot) (m n : Description) : Type 0 where
  pub grid : HaveOneGrid m n
  pub usable : (s : Spot) → is_usable n s ≡ (is_usable m s || list_any (spot_eq s) spots)

-- a board whose chips have all their memory
pub record IsWholeBoard (b : Board) : Type 0 where
  pub rooms : (q : ℕ) → q < length b.chips → slice_index b.rooms q ≡ room_left (slice_index b.cores.items q) b.sdram

-- ---- one vertex more

-- the place of the chip for a vertex: it has room, and is the first that has, or the chip that the vertex names
pub record IsPlaceWithRoom (b : Board) (v : Vertex) (place : ℕ) : Type 0 where
  pub within : place < length b.chips
  pub enough : v.sdram < slice_index b.rooms place
  pub first : MatchOption v.at ((q : ℕ) → q < place → slice_index b.rooms q ≤ v.sdram) (λ c. slice_get b.chips place ≡ Some c)

-- the chip is not on the board, or has too little room
abbrev pub HasNoRoomAt : Board → ℕ → Chip → Type 0
HasNoRoomAt b sdram c = (q : ℕ) → slice_get b.chips q ≡ Some c → slice_index b.rooms q ≤ sdram

abbrev pub HasNoPlace : Board → Vertex → Type 0
HasNoPlace b v = MatchOption v.at (All (λ room. room ≤ v.sdram) b.rooms) (HasNoRoomAt b v.sdram)

-- a place of a board where a vertex that needs so many bytes may stand: its chip has room
pub record IsFreePlace (b : Board) (place sdram : ℕ) : Type 0 where
  pub within : place < length b.chips
  pub enough : sdram < slice_index b.rooms place

-- a vertex that needs so many bytes was put on the least free core of the chip at this place
pub record IsFilled (place sdram : ℕ) (old new : Board) (r : Placed) : Type 0 where
  pub level : new.level ≡ old.level
  pub sdram_is : new.sdram ≡ old.sdram
  pub chips : new.chips ≡ old.chips
  pub chip : slice_get old.chips place ≡ Some r.spot.chip
  pub memory : r.memory ≡ (if sdram == 0 then 0 else (old.sdram + 1 - slice_index old.rooms place))
  pub others : ℕ
  pub parted : IsParted (slice_index old.cores.items place) r.spot.core others
  pub cores : new.cores.items ≡ slice_set old.cores.items place others
  pub rooms : new.rooms ≡ slice_set old.rooms place (room_left others (slice_index old.rooms place - 1 - sdram))

-- a vertex that is no device was put on a place with room
pub record IsPutOnCore (old new : Board) (v : Vertex) (r : Placed) : Type 0 where
  pub place : ℕ
  pub found : IsPlaceWithRoom old v place
  pub filled : IsFilled place v.sdram old new r

-- a device was put at its link, and the board stays as it was
pub record IsPutAtLink (m : Description) (old new : Board) (device : Edge) (r : Placed) : Type 0 where
  pub room : HasDeviceRoom m device
  pub spot : r.spot ≡ device_spot device
  pub memory : r.memory ≡ 0
  pub same : new ≡ old

abbrev pub IsPut : Description → Board → Board → Vertex → Placed → Type 0
IsPut m old new v r = MatchOption v.device (IsPutOnCore old new v r) (λ device. IsPutAtLink m old new device r)

abbrev pub HasNoSpot : Description → Board → Vertex → Type 0
HasNoSpot m b v = MatchOption v.device (HasNoPlace b v) (λ device. HasDeviceRoom m device → ⊥)

-- ---- cores and memory given back

-- whether one of these spots is on the chip
abbrev pub has_spot_on : Chip → List Spot → Bool
has_spot_on c spots = list_any (λ (s : Spot). chip_eq c s.chip) spots

-- The core of the chip at a place is free, if the chip has that core.
pub record IsFreed (place core : ℕ) (old new : Board) : Type 0 where
  pub level : new.level ≡ old.level
  pub sdram : new.sdram ≡ old.sdram
  pub chips : new.chips ≡ old.chips
  pub rooms : new.rooms ≡ old.rooms
  pub others : (q : ℕ) → q ≢ place → slice_index new.cores.items q ≡ slice_index old.cores.items q
  pub low : core < 18 → IsJoined (slice_index old.cores.items place) core (slice_index new.cores.items place)
  pub high : 18 ≤ core → new.cores.items ≡ old.cores.items

-- The chip at a place has all its memory.
pub record IsMadeWhole (place : ℕ) (old new : Board) : Type 0 where
  pub level : new.level ≡ old.level
  pub sdram : new.sdram ≡ old.sdram
  pub chips : new.chips ≡ old.chips
  pub cores : new.cores.items ≡ old.cores.items
  pub rooms : new.rooms ≡ slice_set old.rooms place (room_left (slice_index old.cores.items place) old.sdram)

-- The chips without a spot of these have what they had.
pub record AreOthersKept (spots : List Spot) (old new : Board) : Type 0 where
  pub level : new.level ≡ old.level
  pub sdram : new.sdram ≡ old.sdram
  pub chips : new.chips ≡ old.chips
  pub cores : (q : ℕ) (c : Chip) → slice_get old.chips q ≡ Some c → has_spot_on c spots ≡ false → slice_index new.cores.items q ≡ slice_index old.cores.items q
  pub rooms : (q : ℕ) (c : Chip) → slice_get old.chips q ≡ Some c → has_spot_on c spots ≡ false → slice_index new.rooms q ≡ slice_index old.rooms q

-- The chips of these spots have all their memory, and others what they had.
pub record AreSettled (spots : List Spot) (old new : Board) : Type 0 where
  pub level : new.level ≡ old.level
  pub sdram : new.sdram ≡ old.sdram
  pub chips : new.chips ≡ old.chips
  pub rooms : (q : ℕ) (c : Chip) → slice_get old.chips q ≡ Some c →
      slice_index new.rooms q ≡ (if has_spot_on c spots then room_left (slice_index new.cores.items q) old.sdram else slice_index old.rooms q)
  pub cores : (q : ℕ) (c : Chip) → slice_get old.chips q ≡ Some c → has_spot_on c spots ≡ false → slice_index new.cores.items q ≡ slice_index old.cores.items q

-- And these spots are free.
pub record AreGiven (spots : List Spot) (old new : Board) : Type 0 where
  pub settled : AreSettled spots old new
  pub free : (q : ℕ) (c : Chip) → slice_get old.chips q ≡ Some c → (p : ℕ) → p < 18 →
      bit_at (slice_index new.cores.items q) p ≡ (if list_any (spot_eq (core_spot c p)) spots then 1 else bit_at (slice_index old.cores.items q) p)
