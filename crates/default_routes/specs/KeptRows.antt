-- The rows that must be kept, since default routing does not replace them.
use Rattle.std.specs.Prelude.{◌≡◌, ℕ, suc, ◌<◌, ◌≤◌, ◌^◌, List, [], ◌∷◌, length, All, AllPairs, map, slice_get, slice_index_or, Some}
use Rattle.spin_base.specs.declared.chips.Dir.{Dir}
use Rattle.spin_base.specs.declared.chips.Port.TheVariants.{Link}
use Rattle.spin_base.specs.Lookup.{straight_on, lookup}
use Rattle.tern_word.specs.declared.tables.Alias.{Alias}
use Rattle.tern_word.specs.declared.tables.Row.{Row}
use Rattle.tern_word.specs.Entries.{entry_of}
use Rattle.tern_word.specs.Ternary.{Matches}
use Rattle.tern_word.specs.SoundTable.{Misses, Original}
use Rattle.cover_merge.specs.Merge.{rows_at}

-- A row can go where its route is one link, each of its aliases arrives at the opposite link, and no later kept row
-- meets an alias of it: then a packet of its aliases goes on by that link by default (SpiNNaker datasheet; this
-- project's own).
pub record IsStrippable (row : Row) (later : List Row) : Type 0 where
  pub arrival : Dir
  pub route : row.route ≡ straight_on arrival
  pub arrives : All (λ (a : Alias). a.port ≡ Link arrival) row.aliases
  pub clear : All (λ (r : Row). Misses r.block row) later

-- From the last row to the first, each row that can go goes. These are the kept places from place i on.
pub data KeptFrom (rows : List Row) : ℕ → List ℕ → Type 0 where
  ends : KeptFrom rows (length rows) []
  goes : (i : ℕ) (row : Row) (kept : List ℕ) → slice_get rows i ≡ Some row → IsStrippable row (rows_at rows kept) → KeptFrom rows (suc i) kept → KeptFrom rows i kept
  stays : (i : ℕ) (row : Row) (kept : List ℕ) → slice_get rows i ≡ Some row → (IsStrippable row (rows_at rows kept) → ⊥) → KeptFrom rows (suc i) kept → KeptFrom rows i (i ∷ kept)

-- the kept places of a table
abbrev pub AreKept : List Row → List ℕ → Type 0
AreKept rows kept = KeptFrom rows 0 kept

-- places of rows, ascending, and so at most as many as there are rows
pub record ArePlaces (rows : List Row) (places : List ℕ) : Type 0 where
  pub in_range : All (λ s. s < length rows) places
  pub ascending : AllPairs (λ s t. s < t) places
  pub few : length places ≤ length rows

-- In the rows at the places, lookup gives each key of each alias, arriving at the alias's port, its row's route.
abbrev pub RoutesAll : List Row → List ℕ → Type 0
RoutesAll rows kept =
    (j : ℕ) (d : Row) → j < length rows → (m : ℕ) (e : Alias) → m < length (slice_index_or rows j d).aliases
    → (key : ℕ) → key < 2 ^ 32 → Matches (slice_index_or (slice_index_or rows j d).aliases m e).block key
    → lookup (map entry_of (rows_at rows kept)) key (slice_index_or (slice_index_or rows j d).aliases m e).port ≡ (slice_index_or rows j d).route

-- In the rows, lookup gives each key of the original block, arriving at its port, its route.
abbrev pub Routes : List Row → Original → Type 0
Routes rows o = (key : ℕ) → key < 2 ^ 32 → Matches o.block key → lookup (map entry_of rows) key o.port ≡ o.route
