-- Where vertices stand (this project's own).
use Rattle.std.specs.Prelude.{◌≡◌, ℕ, ◌+◌, ◌≤◌, ◌==◌, Bool, true, false, not, ◌&&◌, ◌⊎◌, List, [], ◌∷◌, length, take, Option, Some, None, is_none, MatchOption, slice_get, All, if◌then◌else◌}
use Rattle.std.specs.List.{list_any}
use Rattle.spin_base.specs.declared.chips.Chip.{Chip}
use Rattle.spin_base.specs.declared.chips.Spot.{Spot}
use Rattle.spin_base.specs.Equality.{chip_eq, spot_eq}
use Rattle.spin_base.specs.Links.{dir_number}
use Rattle.machine_desc.specs.declared.trees.Edge.{Edge}
use Rattle.machine_desc.specs.Description.{Description}
use Rattle.machine_desc.specs.Live.{is_usable, is_live_chip, is_live_link}
use Rattle.app_graph.specs.declared.graphs.Vertex.{Vertex}
use Rattle.place_fit.specs.Curve.{IsChipOrder}

abbrev pub core_spot : Chip → ℕ → Spot
core_spot c p = record { chip = c; core = p }

-- the bytes of shared memory that a vertex needs: none where it is a device
abbrev pub need_of : Vertex → ℕ
need_of v = if is_none v.device then v.sdram else 0

-- the bytes of a chip's shared memory that vertices at these spots need
abbrev pub used_on : Chip → List Vertex → List Spot → ℕ
used_on c (v ∷ vs) (s ∷ ss) = (if chip_eq c s.chip then need_of v else 0) + used_on c vs ss
used_on c [] ss = 0
used_on c (v ∷ vs) [] = 0

-- a core that is usable, and the core of none of these vertices
abbrev pub is_free_core : Description → List Spot → Spot → Bool
is_free_core m spots s = is_usable m s && not (list_any (spot_eq s) spots)

-- A chip has room for a vertex where some core of it is free, and what earlier vertices need of its memory leaves what
-- this one needs.
pub record HasRoom (m : Description) (vertices : List Vertex) (spots : List Spot) (v : Vertex) (c : Chip) : Type 0 where
  pub core : ℕ
  pub free : is_free_core m spots (core_spot c core) ≡ true
  pub memory : used_on c vertices spots + v.sdram ≤ m.sdram

-- the first chip of a list of which P holds
abbrev pub IsFirstChip : (Chip → Type 0) → List Chip → Chip → Type 0
IsFirstChip P [] c = ⊥
IsFirstChip P (x ∷ xs) c = (P x × (x ≡ c)) ⊎ ((P x → ⊥) × IsFirstChip P xs c)

-- the chips on which a vertex may stand: all in their order, or the one that it names
abbrev pub choices : List Chip → Option Chip → List Chip
choices order None = order
choices order (Some c) = c ∷ []

-- A vertex that is no device stands on the first of these chips that has room, on the least free core of it.
pub record IsCoreFor (m : Description) (order : List Chip) (vertices : List Vertex) (spots : List Spot) (v : Vertex) (s : Spot) : Type 0 where
  pub chip : IsFirstChip (HasRoom m vertices spots v) (choices order v.at) s.chip
  pub free : is_free_core m spots s ≡ true
  pub least : (p : ℕ) → is_free_core m spots (core_spot s.chip p) ≡ true → s.core ≤ p

-- a device has room where its chip is live, and its link is not
abbrev pub HasDeviceRoom : Description → Edge → Type 0
HasDeviceRoom m e = (is_live_chip m e.chip ≡ true) × (is_live_link m e.chip e.dir ≡ false)

-- the spot of a device: its number on its chip is 18 + d, for link d
abbrev pub device_spot : Edge → Spot
device_spot e = record { chip = e.chip; core = 18 + dir_number e.dir }

-- A device stands at its link, and any other vertex on a core.
abbrev pub IsSpotFor : Description → List Chip → List Vertex → List Spot → Vertex → Spot → Type 0
IsSpotFor m order vertices spots v s =
    MatchOption v.device (IsCoreFor m order vertices spots v s) (λ device. HasDeviceRoom m device × (s ≡ device_spot device))

-- the spots of the first vertices, as many as there are spots
pub record AreFirstSpots (m : Description) (order : List Chip) (vertices : List Vertex) (spots : List Spot) : Type 0 where
  pub few : length spots ≤ length vertices
  pub each : (i : ℕ) (v : Vertex) (s : Spot) → slice_get vertices i ≡ Some v → slice_get spots i ≡ Some s
      → IsSpotFor m order (take i vertices) (take i spots) v s

-- The memory of a vertex begins behind what earlier vertices on its chip need. It is 0 for a vertex that needs none.
abbrev pub memory_of : List Vertex → List Spot → Vertex → Spot → ℕ
memory_of vertices spots v s = if need_of v == 0 then 0 else used_on s.chip vertices spots

pub record AreFirstMemories (vertices : List Vertex) (spots : List Spot) (memory : List ℕ) : Type 0 where
  pub one_each : length memory ≡ length spots
  pub each : (i : ℕ) (v : Vertex) (s : Spot) → slice_get vertices i ≡ Some v → slice_get spots i ≡ Some s
      → slice_get memory i ≡ Some (memory_of (take i vertices) (take i spots) v s)

-- the spots of all vertices, and where the memory of each begins
pub record IsPlacement (m : Description) (vertices : List Vertex) (spots : List Spot) (memory : List ℕ) : Type 0 where
  pub order : List Chip
  pub is_order : IsChipOrder m order
  pub first : AreFirstSpots m order vertices spots
  pub all : length spots ≡ length vertices
  pub memories : AreFirstMemories vertices spots memory

-- A device finds no room where its chip is not live, or its link is. Any other vertex finds none where none of the chips on
-- which it may stand has room for it.
abbrev pub FindsNoRoom : Description → List Chip → List Vertex → List Spot → Vertex → Type 0
FindsNoRoom m order vertices spots v =
    MatchOption v.device (All (λ c. HasRoom m vertices spots v c → ⊥) (choices order v.at)) (λ device. HasDeviceRoom m device → ⊥)

-- There is no room for a vertex where those before it, devices and others, have their spots, and it finds no room.
pub record HasNoRoom (m : Description) (vertices : List Vertex) (i : ℕ) : Type 0 where
  pub order : List Chip
  pub is_order : IsChipOrder m order
  pub spots : List Spot
  pub before : AreFirstSpots m order vertices spots
  pub here : length spots ≡ i
  pub vertex : Vertex
  pub is : slice_get vertices i ≡ Some vertex
  pub none : FindsNoRoom m order (take i vertices) spots vertex
