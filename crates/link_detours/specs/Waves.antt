-- Sets of chips as bits, and waves: the chips within so many live links of a start.
use Rattle.std.specs.Prelude.{◌≡◌, ℕ, ◌^◌, ◌<◌, ◌≤◌, ◌↔◌, List, [], ◌++◌, length, slice_index, slice_set, Some, ◌⊎◌}
use Rattle.std.proofs.Common.{zero, suc}
use Rattle.std.specs.Int.{bit_at}
use Rattle.spin_base.specs.{declared.chips.Chip.Chip, declared.chips.Dir.Dir, Links.dir_number}
use Rattle.machine_desc.specs.{declared.trees.Edge.Edge, Description.Description}
use Rattle.machine_desc.specs.{Live.far_of, Live.IsInside, Live.IsLiveLink, Live.LeadsTo, RoutingTree.end_of, RoutingTree.IsTreeChip}
use Rattle.link_detours.specs.Steps.{IsReachedBy}

-- A set has one word a column of chips, and bit y of it tells of the chip at y.
abbrev pub IsIn : List ℕ → Chip → Type 0
IsIn set c = bit_at (slice_index set c.x) c.y ≡ 1

-- the set has a bit for the chip
abbrev pub HasBitOf : List ℕ → Chip → Type 0
HasBitOf set c = (c.x < length set) × (c.y < 64)

-- a set of a machine's chips that has none
pub record IsEmptySet (m : Description) (set : List ℕ) : Type 0 where
  pub long : length set ≡ m.width
  pub none : (c : Chip) → IsIn set c → ⊥

-- a set of a machine's chips that has those of a tree
pub record IsSetOfTree (m : Description) (root : Chip) (tree : List Edge) (set : List ℕ) : Type 0 where
  pub long : length set ≡ m.width
  pub told : (c : Chip) → IsIn set c ↔ IsTreeChip m root tree c

-- the chip's link leads, live, to a chip of the set
abbrev pub LeadsInto : Description → List ℕ → Chip → Dir → Type 0
LeadsInto m set c d = (e : Chip) × IsLiveLink m c d × (far_of m c d ≡ Some e) × IsIn set e

-- the chip is in the set, or some live link leads from it to one that is
abbrev pub IsSpread : Description → List ℕ → Chip → Type 0
IsSpread m set c = IsIn set c ⊎ ((d : Dir) × LeadsInto m set c d)

-- outside the columns that a word names the set has each chip from which a live link leads to one of it
abbrev pub IsSpreadBut : Description → List ℕ → ℕ → Type 0
IsSpreadBut m set columns = (c : Chip) → IsInside m c → (bit_at columns c.x ≡ 1 → ⊥) → IsSpread m set c → IsIn set c

-- A column's word in place of the old one: the chips of the column in a set, and those from which a live link leads to one of it.
-- The column is named where it has more than in the set.
pub record IsSpreadAt (m : Description) (set : List ℕ) (x : ℕ) (old : List ℕ) (columns : ℕ) (new : List ℕ) (more : ℕ) : Type 0 where
  pub word : ℕ
  pub is : new ≡ slice_set old x word
  pub fits : word < 2 ^ 64
  pub rises : slice_index set x ≤ word
  pub spread : (y : ℕ) → y < m.height → (bit_at word y ≡ 1) ↔ IsSpread m set (record { x = x; y = y })
  pub named : (k : ℕ) → bit_at columns k ≡ 1 → bit_at more k ≡ 1
  pub told : (bit_at more x ≡ 1 → ⊥) → word ≡ slice_index set x
  pub grew : (more ≡ columns) ⊎ (word ≡ slice_index set x → ⊥)

-- at most n live links lead from a start to the chip
abbrev pub IsWithinLinks : Description → (Chip → Type 0) → ℕ → Chip → Type 0
IsWithinLinks m IsStart n c = (k : ℕ) × (k ≤ n) × IsReachedBy (LeadsTo m) IsStart k c

-- The wave of number n is the set of the chips within n live links of a start.
pub record IsWave (m : Description) (IsStart : Chip → Type 0) (n : ℕ) (set : List ℕ) : Type 0 where
  pub long : length set ≡ m.width
  pub told : (c : Chip) → IsInside m c → (IsIn set c → IsWithinLinks m IsStart n c) × (IsWithinLinks m IsStart n c → IsIn set c)

-- the waves of the numbers below n, one behind the other
abbrev pub AreWaves : Description → (Chip → Type 0) → ℕ → List ℕ → Type 0
AreWaves m IsStart zero words = words ≡ []
AreWaves m IsStart (suc n) words = (before : List ℕ) × (wave : List ℕ) × (words ≡ before ++ wave) × AreWaves m IsStart n before × IsWave m IsStart n wave

-- the live link leads into the chip from one of the set
abbrev pub IsStepFrom : Description → List ℕ → Chip → Edge → Type 0
IsStepFrom m set c e = IsLiveLink m e.chip e.dir × (end_of m e ≡ Some c) × IsIn set e.chip

-- and of all those that do, it has the least number
abbrev pub IsBestStep : Description → List ℕ → Chip → Edge → Type 0
IsBestStep m set c e = IsStepFrom m set c e × ((f : Edge) → IsStepFrom m set c f → dir_number e.dir ≤ dir_number f.dir)
