-- The rivals of a row: the rows behind it that meet an alias of it. They save looking at all rows in each up-check.
use Rattle.std.specs.Prelude.{◌≡◌, ◌==◌, ◌++◌, ◌∷◌, ℕ, ◌<◌, ◌≤◌, ◌^◌, ◌⊎◌, Bool, true, false, not, List, [], All, AllPairs, filter, insert, length, slice_get, slice_index, slice_index_or, Some, ⊤}
use Rattle.std.specs.List.{list_any}
use Rattle.spin_base.specs.declared.blocks.Block.{Block}
use Rattle.tern_word.specs.declared.tables.Alias.{Alias}
use Rattle.tern_word.specs.declared.tables.Row.{Row}
use Rattle.tern_word.specs.Ternary.{generality}
use Rattle.tern_word.specs.SoundTable.{IsSound, Misses}
use Rattle.cover_merge.specs.Merge.{has_row, merged_block, IsLegalMerge, SameRoute}
use Rattle.cover_merge.specs.Spans.{AreSpansOf}
use Rattle.cover_merge.specs.declared.rivals.Rival.{Rival}
use Rattle.cover_merge.specs.declared.rivals.Rivals.{Rivals}

-- this is row r, as a rival: its number, generality and route
pub record IsRivalOf (rows : List Row) (serials : List ℕ) (r : ℕ) (v : Rival) : Type 0 where
  pub inside : r < length rows
  pub serial : v.serial ≡ slice_index serials r
  pub general : (d : Row) → v.general ≡ generality (slice_index_or rows r d).block
  pub bits : (d : Row) → v.bits ≡ (slice_index_or rows r d).route.bits

-- the block of row r meets an alias of row s
abbrev pub MeetsAliasOf : List Row → ℕ → ℕ → Type 0
MeetsAliasOf rows r s = (d : Row) → Misses (slice_index_or rows r d).block (slice_index_or rows s d) → ⊥

-- it meets none
abbrev pub MeetsNone : List Row → ℕ → ℕ → Type 0
MeetsNone rows r s = (d : Row) → Misses (slice_index_or rows r d).block (slice_index_or rows s d)

-- one of the list has this number
abbrev pub HasSerial : List Rival → ℕ → Type 0
HasSerial list serial = list_any (λ (v : Rival). v.serial == serial) list ≡ true

-- a rival of row s: a row behind it that meets an alias of it
pub record IsRivalBehind (rows : List Row) (serials : List ℕ) (s : ℕ) (v : Rival) : Type 0 where
  pub place : ℕ
  pub behind : s < place
  pub is : IsRivalOf rows serials place v
  pub meets : MeetsAliasOf rows place s

-- The list has just the rivals of row s, in order of generality.
pub record AreRivalsAt (rows : List Row) (serials : List ℕ) (s : ℕ) (list : List Rival) : Type 0 where
  pub ordered : AllPairs (λ (v w : Rival). v.general ≤ w.general) list
  pub each : All (IsRivalBehind rows serials s) list
  pub all : (r : ℕ) → s < r → r < length rows → (MeetsNone rows r s) ⊎ (HasSerial list (slice_index serials r))

-- row r is no rival of row s and the list stays, or it is one and comes last
abbrev pub IsRivalAdded : List Row → List ℕ → ℕ → ℕ → List Rival → List Rival → Type 0
IsRivalAdded rows serials s r old new =
    ((s < r → MeetsNone rows r s) × (new ≡ old)) ⊎ ((s < r) × (v : Rival) × (IsRivalOf rows serials r v) × (MeetsAliasOf rows r s) × (new ≡ old ++ v ∷ []))

-- A sound table of fewer than 2^32 rows: each has a number of its own, by which its rivals and its spans are found.
pub record IsRivaled (rows : List Row) (rivals : Rivals) : Type 0 where
  pub few : length rows < 2 ^ 32
  pub sound : IsSound rows
  pub one_each : length rivals.serials.items ≡ length rows
  pub below : All (λ k. k < length rivals.of.items) rivals.serials.items
  pub apart : (i j : ℕ) → i < length rows → j < length rows → slice_index rivals.serials.items i ≡ slice_index rivals.serials.items j → i ≡ j
  pub each : (s : ℕ) → s < length rows → AreRivalsAt rows rivals.serials.items s (slice_index_or rivals.of.items (slice_index rivals.serials.items s) [])
  pub as_many : length rivals.spans.items ≡ length rivals.of.items
  pub spanned : (s : ℕ) (d : Row) → s < length rows → AreSpansOf (slice_index_or rows s d).aliases (slice_index_or rivals.spans.items (slice_index rivals.serials.items s) [])

-- whether the row of this number stands at one of the places
abbrev pub is_at_one : List ℕ → List ℕ → ℕ → Bool
is_at_one serials places serial = list_any (λ s. slice_index serials s == serial) places

-- the list without those at the places
abbrev pub rivals_left : List ℕ → List ℕ → List Rival → List Rival
rivals_left serials places list = filter (λ (v : Rival). not (is_at_one serials places v.serial)) list

-- one more is put in, behind those that are at most as general and before those that are more so
pub record IsPutIn (v : Rival) (old new : List Rival) : Type 0 where
  pub at : ℕ
  pub within : at ≤ length old
  pub before : (k : ℕ) (e : Rival) → k < at → (slice_index_or old k e).general ≤ v.general
  pub behind : (k : ℕ) (e : Rival) → at ≤ k → k < length old → v.general ≤ (slice_index_or old k e).general
  pub result : new ≡ insert old at v

-- The list has just the rivals of row s in the table after the merge of the rows at the places, by places of the table
-- before it. The merged row, which has this block, is the one given, where it is a rival.
pub record AreRivalsAfter (rows : List Row) (serials places : List ℕ) (block : Block) (merged : Rival) (s : ℕ) (list : List Rival) : Type 0 where
  pub ordered : AllPairs (λ (v w : Rival). v.general ≤ w.general) list
  pub each : All (λ v. ((v ≡ merged) × ((d : Row) → Misses block (slice_index_or rows s d) → ⊥)) ⊎ ((it : IsRivalBehind rows serials s v) × (has_row places it.place ≡ false))) list
  pub all : (r : ℕ) → s < r → r < length rows → has_row places r ≡ false → (MeetsNone rows r s) ⊎ (HasSerial list (slice_index serials r))
  pub own : ((d : Row) → Misses block (slice_index_or rows s d)) ⊎ (HasSerial list merged.serial)

-- Places below n, ascending: P holds of each, and Q of each place below n that is not one of them.
pub record AreThose (P Q : ℕ → Type 0) (n : ℕ) (places : List ℕ) : Type 0 where
  pub ascending : AllPairs (λ s t. s < t) places
  pub inside : All (λ s. s < n) places
  pub each : All P places
  pub rest : (s : ℕ) → s < n → (Q s) ⊎ (has_row places s ≡ true)

-- the places, ascending, of all rows of which the block meets an alias
abbrev pub AreMet : Block → List Row → List ℕ → Type 0
AreMet block rows met = AreThose (λ s. (d : Row) → Misses block (slice_index_or rows s d) → ⊥) (λ s. (d : Row) → Misses block (slice_index_or rows s d)) (length rows) met

-- The rows at the places are a legal merge, each row has its rivals, and the merge meets an alias of the rows at these other
-- places, and of no row else.
pub record CanMerge (rows : List Row) (rivals : Rivals) (places others : List ℕ) : Type 0 where
  pub rivaled : IsRivaled rows rivals
  pub merge : IsLegalMerge rows places (merged_block rows places)
  pub met : AreMet (merged_block rows places) rows others

-- row s and those at the places have numbers, and by its number row s has a list of rivals
pub record HasLists (rivals : Rivals) (places : List ℕ) (s : ℕ) : Type 0 where
  pub inside : s < length rivals.serials.items
  pub below : slice_index rivals.serials.items s < length rivals.of.items
  pub in_range : All (λ r. r < length rivals.serials.items) places

-- row s, and places of rows, of which those behind it have its route
pub record AreAlikeBehind (rows : List Row) (places : List ℕ) (s : ℕ) : Type 0 where
  pub inside : s < length rows
  pub one_route : (r : ℕ) → s < r → has_row places r ≡ true → SameRoute rows s r
  pub in_range : All (λ r. r < length rows) places

-- A row is original where its block is that of an alias, as before any merge. In a sound table it meets no alias of an
-- earlier row: that row's block would meet this alias.
pub record IsOriginal (row : Row) : Type 0 where
  pub at : ℕ
  pub alias : Alias
  pub found : slice_get row.aliases at ≡ Some alias
  pub key : alias.block.key ≡ row.block.key
  pub mask : alias.block.mask ≡ row.block.mask

-- places, ascending, of rows before place n; all others of these are original
abbrev pub AreJoined : List Row → ℕ → List ℕ → Type 0
AreJoined rows n joined = AreThose (λ s. ⊤) (λ s. (d : Row) → IsOriginal (slice_index_or rows s d)) n joined
