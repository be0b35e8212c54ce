-- What is known of a table from one merge to the next.
use Rattle.std.specs.Prelude.{◌≡◌, ℕ, ◌<◌, ◌≤◌, ◌⊎◌, true, Bool, List, Option, Some, None, length, slice_index, slice_index_or}
use Rattle.spin_base.specs.declared.blocks.Block.{Block}
use Rattle.tern_word.specs.declared.tables.Row.{Row}
use Rattle.tern_word.specs.Ternary.{Intersects, generality}
use Rattle.tern_word.specs.SoundTable.{Misses}
use Rattle.cover_merge.specs.Rivals.{IsRivaled}
use Rattle.cover_merge.specs.Covering.{places_of}
use Rattle.cover_merge.specs.Kept.{IsKept, RefinesWithin}
use Rattle.cover_merge.specs.Links.{IsEachOnce, AreLinks, AreNumbers}
use Rattle.cover_merge.specs.Tried.{AreNewerOf, AreNoLater, AreTriedUpTo}
use Rattle.cover_merge.specs.declared.choosing.Changes.{Changes}
use Rattle.cover_merge.specs.declared.choosing.Fresh.{Fresh}
use Rattle.cover_merge.specs.declared.keeping.Kept.{Kept}
use Rattle.cover_merge.specs.declared.keeping.Most.{Most}
use Rattle.cover_merge.specs.declared.knowing.Known.{Known}
use Rattle.cover_merge.specs.declared.links.Links.{Links}

-- What is kept of the routes is so, for each of which something is kept.
abbrev pub AreRoutesKept : List ℕ → List Row → List (Option Kept) → Type 0
AreRoutesKept routes rows kept =
    (c : ℕ) (it : Kept) → c < length routes → slice_index_or kept c None ≡ Some it → IsKept rows (slice_index routes c) it.size it.outer it.low

-- for each route something is kept
abbrev pub AreAllKept : List ℕ → List (Option Kept) → Type 0
AreAllKept routes kept = (c : ℕ) → c < length routes → (it : Kept) × (slice_index_or kept c None ≡ Some it)

-- The table is sound and has fewer than 2^32 rows. Each row has its rivals, its times, and the number of its route; of each
-- route something may be kept, and when a row of it last changed.
pub record IsKnown (rows : List Row) (known : Known) : Type 0 where
  pub rivaled : IsRivaled rows known.rivals
  pub one_each : length known.times.items ≡ length rows
  pub one_time : length known.latest.items ≡ length known.routes.items
  pub latest : AreNoLater known.routes.items known.latest.items rows known.times.items
  pub once : IsEachOnce known.routes.items
  pub numbers : AreNumbers known.routes.items rows known.numbers.items
  pub one_route : length known.kept.items ≡ length known.routes.items
  pub kept : AreRoutesKept known.routes.items rows known.kept.items

-- The same, and no row was tried or changed later than now.
pub record IsKnownAt (now : ℕ) (rows : List Row) (known : Known) : Type 0 where
  pub told : IsKnown rows known
  pub marks : AreTriedUpTo now rows known.times.items

-- the rows have the same routes
pub record HasSameRoutes (old new : Known) : Type 0 where
  pub numbers : new.numbers.items ≡ old.numbers.items
  pub routes : new.routes.items ≡ old.routes.items

-- What is still kept was kept before, and passes the test.
pub record AreStillKept (P : ℕ → Kept → Type 0) (old new : List (Option Kept)) : Type 0 where
  pub one_each : length new ≡ length old
  pub each : (c : ℕ) (it : Kept) → slice_index_or new c None ≡ Some it → (slice_index_or old c None ≡ Some it) × (P c it)

-- the block meets no block that was down-checked, or is no more general than each
abbrev pub IsApart : Block → Kept → Type 0
IsApart block it = (Intersects block it.outer → ⊥) ⊎ (generality block ≤ it.low)

-- the block meets no alias of the first n rows of this number
abbrev pub MissesAllOf : Block → List Row → List ℕ → ℕ → ℕ → Type 0
MissesAllOf block rows numbers n number = (s : ℕ) (d : Row) → s < n → s < length rows → slice_index numbers s ≡ number → Misses block (slice_index_or rows s d)

-- Of the first k routes none has more places kept than this one, or as many and lesser bits.
pub record IsMostBefore (routes : List ℕ) (kept : List (Option Kept)) (k : ℕ) (most : Most) : Type 0 where
  pub inside : 0 < most.size → most.number < length routes
  pub own : 0 < most.size → (it : Kept) × (slice_index_or kept most.number None ≡ Some it) × (it.size ≡ most.size)
  pub bits : 0 < most.size → slice_index routes most.number ≡ most.bits
  pub no_larger : (c : ℕ) (it : Kept) → c < k → slice_index_or kept c None ≡ Some it → it.size ≤ most.size
  pub smaller : (c : ℕ) (it : Kept) → c < k → slice_index_or kept c None ≡ Some it → 0 < most.size → slice_index routes c < most.bits → it.size < most.size

-- the set, where it has places, is one to which the rows of its route are refined
abbrev pub IsFreshlyRefined : List ℕ → List Row → Fresh → Type 0
IsFreshlyRefined routes rows fresh =
    0 < length fresh.set → (outer : Block) × (low : ℕ) × (RefinesWithin rows outer low (places_of (slice_index routes fresh.number) 0 rows) fresh.set)

-- what is known of the table, and the links of its rows
pub record IsLinked (rows : List Row) (k : Known) (l : Links) : Type 0 where
  pub known : IsKnown rows k
  pub links : AreLinks k.routes.items rows l.next.items l.heads.items

-- The same, and of each route something is kept. The set at hand, where it has places, is one to which the rows of its route
-- are refined.
pub record AreSetsKept (rows : List Row) (known : Known) (links : Links) (set : Fresh) : Type 0 where
  pub linked : IsLinked rows known links
  pub all : AreAllKept known.routes.items known.kept.items
  pub fresh : IsFreshlyRefined known.routes.items rows set

-- What is known of the table and the links of its rows; and for each route that is ready, the next rows that changed later
-- are those of all its rows.
pub record AreChanges (rows : List Row) (known : Known) (links : Links) (changes : Changes) : Type 0 where
  pub linked : IsLinked rows known links
  pub places : length changes.newer.items ≡ length rows
  pub one_each : length changes.ready.items ≡ length known.routes.items
  pub newer : (c : ℕ) (e : Bool) → c < length known.routes.items → slice_index_or changes.ready.items c e ≡ true
      → AreNewerOf (slice_index known.routes.items c) 0 rows known.times.items changes.newer.items
