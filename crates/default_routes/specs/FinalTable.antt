-- What covering and default routing leave of a table (covering after Mundy, Heathcote, Garside, HPSR 2016; default routing
-- is the SpiNNaker datasheet's).
use Rattle.std.specs.Prelude.{◌≡◌, ℕ, ◌<◌, ◌≤◌, ◌^◌, ◌⊎◌, false, List, ◌++◌, All, length, map}
use Rattle.std.specs.List.{Contains}
use Rattle.spin_base.specs.declared.blocks.Entry.{Entry}
use Rattle.spin_base.specs.Lookup.{matches, lookup}
use Rattle.tern_word.specs.declared.tables.Row.{Row}
use Rattle.tern_word.specs.Entries.{entry_of}
use Rattle.tern_word.specs.Ternary.{Matches}
use Rattle.tern_word.specs.SoundTable.{IsSound, Original}
use Rattle.cover_merge.specs.Merge.{rows_at}
use Rattle.cover_merge.specs.Covering.{Covers, HasNoLegalPair}
use Rattle.default_routes.specs.declared.stripping.Final.{Final}
use Rattle.default_routes.specs.KeptRows.{AreKept, ArePlaces}

-- The final table of a table: the table is covered until it has at most target rows, and the final table has the entries of
-- those rows, in their order, that default routing does not replace.
pub record IsFinalOf (target : ℕ) (table : List Row) (f : Final) : Type 0 where
  pub rows : List Row
  pub sets : List (List ℕ)
  pub covered : Covers target table sets rows
  pub kept : List ℕ
  pub are_kept : AreKept rows kept
  pub entries : f.entries ≡ map entry_of (rows_at rows kept)

-- The final table of a sound table, with what is so of the covered rows, which are sound and no more than the table's, and of the
-- places of those that are kept. Where more rows than wanted are left, no two of them can be merged.
pub record IsShortened (target : ℕ) (table : List Row) (f : Final) : Type 0 where
  pub final : IsFinalOf target table f
  pub sound : IsSound final.rows
  pub no_more : length final.rows ≤ length table
  pub places : ArePlaces final.rows final.kept
  pub one_each : length f.entries ≡ length final.kept
  pub ended : (length final.rows ≤ target) ⊎ (HasNoLegalPair final.rows)

-- each entry's route is that of a row of the table
abbrev pub HaveRoutesOf : List Row → List Entry → Type 0
HaveRoutesOf table entries = All (λ (e : Entry). Contains (map (λ (r : Row). r.route) table) e.route) entries

-- the entry matches no key, as an unused one
abbrev pub MatchesNoKey : Entry → Type 0
MatchesNoKey e = (key : ℕ) → matches e key ≡ false

-- In the entries, alone and followed by entries that match no key, lookup gives each key of the original block, arriving at its
-- port, its route.
abbrev pub RoutesAlone : List Entry → Original → Type 0
RoutesAlone entries o =
    (rest : List Entry) → All MatchesNoKey rest
    → (key : ℕ) → key < 2 ^ 32 → Matches o.block key → lookup (entries ++ rest) key o.port ≡ o.route
