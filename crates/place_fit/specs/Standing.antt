-- What a board tells of the vertices that stand on it, as the private functions say it.
use Rattle.std.specs.Prelude.{◌≡◌, ℕ, ◌+◌, ◌^◌, ◌<◌, List, [], All, None, length, take, filter, Some, slice_get, slice_index}
use Rattle.spin_base.specs.declared.chips.Chip.{Chip}
use Rattle.spin_base.specs.declared.chips.Spot.{Spot}
use Rattle.machine_desc.specs.Description.{Description}
use Rattle.machine_desc.specs.Live.{is_live_chip}
use Rattle.app_graph.specs.declared.graphs.Vertex.{Vertex}
use Rattle.place_fit.specs.declared.boards.Board.{Board}
use Rattle.place_fit.specs.declared.free_cores.FreeCores.TheInside.{Inside}
use Rattle.place_fit.specs.Boards.{AreCores, IsWholeBoard}
use Rattle.place_fit.specs.Curve.{hilbert, IsCurveLevel}
use Rattle.place_fit.specs.Placement.{is_free_core, used_on, AreFirstSpots, AreFirstMemories}

-- a chip's cores that are free beside these vertices, and its room
pub record IsChipTold (m : Description) (vs : List Vertex) (ss : List Spot) (c : Chip) (cores room : ℕ) : Type 0 where
  pub free : AreCores (is_free_core m ss) c cores
  pub full : cores ≡ 0 → room ≡ 0
  pub left : 0 < cores → room + used_on c vs ss ≡ m.sdram + 1

-- the board tells, of each chip of the curve, how far these vertices fill it
pub record Stands (m : Description) (vs : List Vertex) (ss : List Spot) (b : Board) : Type 0 where
  pub level : IsCurveLevel m b.level
  pub sdram : b.sdram ≡ m.sdram
  pub same : length vs ≡ length ss
  pub told : (q : ℕ) (c : Chip) → slice_get b.chips q ≡ Some c → IsChipTold m vs ss c (slice_index b.cores.items q) (slice_index b.rooms q)

-- the first vertices, as many as there are spots, stand on the board at these spots, each with its memory
pub record ArePlaced (m : Description) (vertices : List Vertex) (spots : List Spot) (memory : List ℕ) (b : Board) : Type 0 where
  pub stands : Stands m (take (length spots) vertices) spots b
  pub first : AreFirstSpots m (filter (is_live_chip m) (hilbert b.level)) vertices spots
  pub memories : AreFirstMemories vertices spots memory

-- what is seen of free cores is their board
abbrev pub board_of : Inside → Board
board_of s = s.board

abbrev pub IsWhole : Inside → Type 0
IsWhole s = IsWholeBoard s.board

-- no vertex stands on the board yet, and none of those to come is a device
pub record CanPutAll (b : Board) (vertices : List Vertex) (spots : List Spot) (memory : List ℕ) : Type 0 where
  pub whole : IsWholeBoard b
  pub no_spot : spots ≡ []
  pub no_memory : memory ≡ []
  pub few : length vertices < 2 ^ 32
  pub cores : All (λ (v : Vertex). v.device ≡ None) vertices
