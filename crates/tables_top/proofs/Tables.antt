-- One table more, and what its entries keep.
use Rattle.std.proofs.Common.{rules, ◌≡◌, ℕ, ◌+◌, ◌<◌, ◌≤◌, Bool, true, false, cond, List, [], ◌∷◌, ◌++◌, length, get_or, take, map, Option, Some, None, refl, sym, ap, ◌∙◌, subst, arith}
use Rattle.std.specs.Prelude.{IfSome, MatchOption, find}
use Rattle.std.proofs.lemmas.{List.length-map, List.take_all, List.take_more, Option.none-some, Option.same_Some}
use Rattle.spin_base.specs.{declared.blocks.Entry.Entry, declared.chips.Port.Port, declared.routes.Route.Route, Lookup.matches}
use Rattle.table_rules.specs.{declared.rows.RoutedBlock.RoutedBlock, Rows.LeaveBy, Rows.HasNoNewKeys, Rows.KeepsRoutes, Rows.by_default, Rows.by_row, Rows.first_with, Rows.takes_key}
use Rattle.table_readers.specs.declared.asking.GivenTable.{GivenTable}
use Rattle.table_text.specs.declared.writing.ShortTable.{ShortTable}
use Rattle.tables_top.specs.Shorter.{AreBeside, AreShortRows, AreShorter, AreTooManyPieces, GoOut, IsShorterTable, KeepsTable, as_given, by_entry, entry_at, more, none, short_at, shortened, straight}

-- ---- lists beside each other

beside_push : {A B : Type 0} (R : A → B → Type 0) (xs : List A) (ys : List B) (x : A) (y : B) → AreBeside R xs ys → R x y → AreBeside R (xs ++ x ∷ []) (ys ++ y ∷ [])
beside_push R xs ys x y none this = more x y [] [] this none
beside_push R xs ys x y (more a b us vs here rest) this = more a b (us ++ x ∷ []) (vs ++ y ∷ []) here (beside_push R us vs x y rest this)

pub tables_more : (target : ℕ) (exact : Bool) (tables : List GivenTable) (i : ℕ) (given : GivenTable) (old new : List ShortTable) (short : ShortTable) → i < length tables → given ≡ get_or tables i given
    → AreShorter target exact (take i tables) old → IsShorterTable target exact given short → new ≡ old ++ short ∷ [] → AreShorter target exact (take (i + 1) tables) new
tables_more target exact tables i given old new short within read so_far this put =
    grind (arith, take_more tables i given within, beside_push (IsShorterTable target exact) (take i tables) old given short so_far this)

pub tables_all : (target : ℕ) (exact : Bool) (tables : List GivenTable) (i : ℕ) (short : List ShortTable) → length tables ≤ i → AreShorter target exact (take i tables) short → AreShorter target exact tables short
tables_all target exact tables i short past so_far = subst (λ l. AreShorter target exact l short) (take_all i tables past) so_far

-- ---- entries of rows

first_entry : (rows : List RoutedBlock) (k : ℕ) (row : RoutedBlock) → first_with rows k ≡ Some row → find (λ (e : Entry). matches e k) (map entry_at rows) ≡ Some (entry_at row)
first_entry [] k row first = absurd (none-some row first)
first_entry (r ∷ rows) k row first = by_test (first_entry rows k row) (takes_key k r) first
  where
    by_test : (first_with rows k ≡ Some row → find (λ (e : Entry). matches e k) (map entry_at rows) ≡ Some (entry_at row)) → (b : Bool) → cond b (Some r) (first_with rows k) ≡ Some row
        → cond b (Some (entry_at r)) (find (λ (e : Entry). matches e k) (map entry_at rows)) ≡ Some (entry_at row)
    by_test behind b same = grind (arith, same_Some)

no_entry : (rows : List RoutedBlock) (k : ℕ) → first_with rows k ≡ None → find (λ (e : Entry). matches e k) (map entry_at rows) ≡ None
no_entry [] k absent = refl
no_entry (r ∷ rows) k absent = by_test (no_entry rows k) (takes_key k r) absent
  where
    by_test : (first_with rows k ≡ None → find (λ (e : Entry). matches e k) (map entry_at rows) ≡ None) → (b : Bool) → cond b (Some r) (first_with rows k) ≡ None
        → cond b (Some (entry_at r)) (find (λ (e : Entry). matches e k) (map entry_at rows)) ≡ None
    by_test behind b its_2 = grind (arith, none-some)

-- packets go out by the entries as they are sent by the rows
go_out : (rows : List RoutedBlock) (k : ℕ) (port : Port) (route : Route) → LeaveBy rows k port route → GoOut (map entry_at rows) k port route
go_out rows k port route (by_row way) = by_entry (record { entry = entry_at way.row; first = first_entry rows k way.row way.first; by = way.by })
go_out rows k port route (by_default arrival comes on absent) = straight arrival comes on (no_entry rows k absent)

-- the table of rows that keep the routes of those given
keeps_table : (exact : Bool) (given : GivenTable) (rows : List RoutedBlock) (kept : Bool) → KeepsRoutes given.rows rows → (exact ≡ true → HasNoNewKeys given.rows rows) → length rows ≤ length given.rows
    → KeepsTable exact given (short_at given.chip rows kept)
keeps_table exact given rows kept keeps no_new few = search (rules, length-map, go_out, no_entry)

-- What shortening rows tells of them, and of those that it gives, if any.
pub record AreToldOf (target : ℕ) (exact : Bool) (read : List RoutedBlock) (new : Option (List RoutedBlock)) : Type 0 where
  pub rows : MatchOption new (AreTooManyPieces target exact read) (AreShortRows target exact read)
  pub routes : IfSome new (KeepsRoutes read)
  pub keys : IfSome new (λ (rows : List RoutedBlock). exact ≡ true → HasNoNewKeys read rows)
  pub few : IfSome new (λ (rows : List RoutedBlock). length rows ≤ length read)

-- The rows that were shortened, by the slice that they were read from and the one that they were put from.
pub short_made : (target : ℕ) (exact : Bool) (given : GivenTable) (read put : List RoutedBlock) (new : Option (List RoutedBlock)) (rows : List RoutedBlock) (short : ShortTable)
    → AreToldOf target exact read new → new ≡ Some rows → read ≡ given.rows → put ≡ rows → short ≡ short_at given.chip put false → IsShorterTable target exact given short
short_made target exact given read put new rows short told some same same_rows is =
    let here : short ≡ short_at given.chip rows false = is ∙ ap (λ r. short_at given.chip r false) same_rows in
    let all : AreToldOf target exact given.rows (Some rows) = subst (λ l. AreToldOf target exact l (Some rows)) same (subst (AreToldOf target exact read) some told) in
    subst (IsShorterTable target exact given) (sym here) (record { shorter = shortened rows all.rows; keeps = keeps_table exact given rows false all.routes all.keys all.few })

-- the rows as they were given
pub short_kept : (target : ℕ) (exact : Bool) (given : GivenTable) (read put : List RoutedBlock) (new : Option (List RoutedBlock)) (short : ShortTable)
    → AreToldOf target exact read new → new ≡ None → read ≡ given.rows → put ≡ given.rows → short ≡ short_at given.chip put true → IsShorterTable target exact given short
short_kept target exact given read put new short told no_rows same same_rows is =
    let here : short ≡ short_at given.chip given.rows true = is ∙ ap (λ r. short_at given.chip r true) same_rows in
    let all : AreToldOf target exact given.rows None = subst (λ l. AreToldOf target exact l None) same (subst (AreToldOf target exact read) no_rows told) in
    subst (IsShorterTable target exact given) (sym here) (record {
      shorter = as_given all.rows;
      keeps = keeps_table exact given given.rows true (λ k row small first. by_row (record { row = row; first = first; by = refl })) (λ is k small absent. absent) (omega arith);
    })
