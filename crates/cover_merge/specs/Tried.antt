-- Which pairs of rows were tried and are still not legal. It saves trying them again after each merge.
use Rattle.std.specs.Prelude.{◌≡◌, ◌≢◌, ℕ, suc, ◌<◌, ◌≤◌, ◌⊎◌, true, List, All, length, slice_index, slice_index_or}
use Rattle.tern_word.specs.declared.tables.Row.{Row}
use Rattle.tern_word.specs.SoundTable.{Misses}
use Rattle.cover_merge.specs.Merge.{has_row}
use Rattle.cover_merge.specs.Covering.{IsLegalPair}
use Rattle.cover_merge.specs.Links.{AreNexts, place_of_route}
use Rattle.cover_merge.specs.declared.times.Times.{Times}

-- a row is no legal pair with a later one that has not changed since the row was tried
abbrev pub AreTried : List Row → List Times → Type 0
AreTried rows times =
    (i j : ℕ) (e : Times) → i < j → j < length times → (slice_index_or times j e).changed < (slice_index_or times i e).tried → IsLegalPair rows i j → ⊥

-- and no row was tried or changed later than now
pub record AreTriedUpTo (now : ℕ) (rows : List Row) (times : List Times) : Type 0 where
  pub tried : AreTried rows times
  pub bound : All (λ (g : Times). (g.tried ≤ now) × (g.changed ≤ now)) times

-- the times of a row that changed now and was not tried
pub record IsFresh (now : ℕ) (times : Times) : Type 0 where
  pub tried : times.tried ≡ 0
  pub changed : times.changed ≡ now

-- No row of the set behind row s meets an alias of it. So what stands between this row and a merge does not go with the set.
abbrev pub LosesNone : List Row → List ℕ → ℕ → Type 0
LosesNone rows places s = (r : ℕ) (d : Row) → has_row places r ≡ true → s < r → Misses (slice_index_or rows r d).block (slice_index_or rows s d)

-- each row loses none, or changed now
abbrev pub AreTouched : List ℕ → ℕ → List Row → List Times → Type 0
AreTouched places now rows times = (s : ℕ) (e : Times) → s < length times → (LosesNone rows places s) ⊎ (IsFresh now (slice_index_or times s e))

-- row s loses none, or changed now; the other rows are as they were
pub record IsTouchedAt (places : List ℕ) (now : ℕ) (rows : List Row) (s : ℕ) (old new : List Times) : Type 0 where
  pub own : (e : Times) → (LosesNone rows places s) ⊎ (IsFresh now (slice_index_or new s e))
  pub others : (k : ℕ) (e : Times) → k ≢ s → slice_index_or new k e ≡ slice_index_or old k e

-- of a row that was tried now
pub record IsTriedNow (now : ℕ) (old new : Times) : Type 0 where
  pub changed : new.changed ≡ old.changed
  pub tried : new.tried ≡ now

-- no row changed later than is said of its route
abbrev pub AreNoLater : List ℕ → List ℕ → List Row → List Times → Type 0
AreNoLater routes latest rows times = (s : ℕ) (d : Row) (e : Times) → s < length times → (slice_index_or times s e).changed ≤ slice_index latest (place_of_route routes (slice_index_or rows s d).route.bits)

-- The next row behind row k of its route that changed at the time or later is that at the place, and there is none where
-- the place is not in the table.
pub record IsNextSince (rows : List Row) (times : List Times) (k time place : ℕ) : Type 0 where
  pub behind : k < place
  pub same : (d : Row) → place < length rows → (slice_index_or rows place d).route.bits ≡ (slice_index_or rows k d).route.bits
  pub between : (j : ℕ) (d : Row) (e : Times) → k < j → j < place → j < length rows → (slice_index_or rows j d).route.bits ≡ (slice_index_or rows k d).route.bits → (slice_index_or times j e).changed < time

-- for each row of the route from the place on, the next one of it that changed later
abbrev pub AreNewerOf : ℕ → ℕ → List Row → List Times → List ℕ → Type 0
AreNewerOf bits place rows times newer =
    (k : ℕ) (d : Row) (e : Times) → place ≤ k → k < length rows → (slice_index_or rows k d).route.bits ≡ bits → IsNextSince rows times k (suc (slice_index_or times k e).changed) (slice_index newer k)

-- Each row has its times and its next row of its route; and each one of the route of row k, from the place on, its next one
-- that changed later.
pub record AreChangesFrom (k place : ℕ) (rows : List Row) (times : List Times) (next later : List ℕ) : Type 0 where
  pub inside : k < length rows
  pub one_each : length times ≡ length rows
  pub nexts : AreNexts rows next
  pub newer : (d : Row) → AreNewerOf (slice_index_or rows k d).route.bits place rows times later
  pub places : length later ≡ length rows
