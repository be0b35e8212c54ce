-- The board of the places of tables, written from the last table to the first.
use Rattle.plan_check.proofs.Common.{ChipTable, Image, IsTable, IsValid, List, None, Some, [], ap, arith, cases_eq, cond-false, cond-true, drop, drop-cons, drop_all, entries_at, eq-eqb, eqb-true}
use Rattle.plan_check.proofs.Common.{false_from_ne_true, get_or, get_or-replicate, get_or-set_other, get_or-set_same, inl, inr, length, length-replicate, length-set, mul-add-lt, option_map_or, refl}
use Rattle.plan_check.proofs.Common.{replicate, rows_of_index, set, slice_get, slice_get-get_or, subst, suc, sym, table_index, ℕ, ◌*◌, ◌+◌, ◌-◌, ◌<◌, ◌==◌, ◌∙◌, ◌∷◌, ◌≡◌, ◌≤◌}

-- the board tells of the tables from place n on
pub record TellsFrom (height : ℕ) (tables : List ChipTable) (places : List ℕ) (size n : ℕ) : Type 0 where
  pub within : n ≤ length tables
  pub long : length places ≡ size
  pub told : (i d : ℕ) → i < length places → entries_at tables (get_or places i d) ≡ rows_of_index height (drop n tables) i

slice_past : {X : Type 0} (xs : List X) → slice_get xs (length xs) ≡ None
slice_past [] = refl
slice_past (x ∷ xs) = slice_past xs

-- no table was read
pub tells_none : (height size n : ℕ) (tables : List ChipTable) (old new : List ℕ) → length old ≡ size → n ≡ length tables → new ≡ replicate (length old) n → TellsFrom height tables new size n
tells_none height size n tables old new long at is = grind (arith, length-replicate (length old) n, slice_past tables, drop_all n tables (omega (arith, at)), get_or, get_or-replicate)

-- one table more
pub tells_more : (height size n p : ℕ) (tables : List ChipTable) (places : List ℕ) (t : ChipTable) → 0 < n → slice_get tables (n - 1) ≡ Some t → p ≡ table_index height t → p < length places →
    TellsFrom height tables places size n → TellsFrom height tables (set places p (n - 1)) size (n - 1)
tells_more height size n p tables places t some at place below so_far = record {
  within = omega (arith, so_far.within);
  long = length-set places p (n - 1) ∙ so_far.long;
  told = λ i d inside.
      let short : i < length places = subst (λ k. i < k) (length-set places p (n - 1)) inside in
      let first : drop (n - 1) tables ≡ t ∷ drop n tables = rest in
      elim (cases_eq i p) [
        | inl here ↦
            let read : get_or (set places p (n - 1)) i d ≡ n - 1 = ap (λ k. get_or (set places p (n - 1)) k d) here ∙ get_or-set_same places p (n - 1) d below in
            ap (entries_at tables) read ∙ (ap (λ o. option_map_or (λ (u : ChipTable). u.entries) o []) at
            ∙ sym (ap (λ (l : List ChipTable). rows_of_index height l i) first
            ∙ cond-true (table_index height t == i) t.entries (rows_of_index height (drop n tables) i) (eq-eqb (table_index height t) i (sym place ∙ sym here))))
        | inr other ↦
            ap (entries_at tables) (get_or-set_other places p i (n - 1) d other) ∙ (so_far.told i d short
            ∙ sym (ap (λ (l : List ChipTable). rows_of_index height l i) first
            ∙ cond-false (table_index height t == i) t.entries (rows_of_index height (drop n tables) i)
            (false_from_ne_true (table_index height t == i) (λ hit. other (sym (place ∙ eqb-true (table_index height t) i hit))))))
      ];
}
  where
    rest : drop (n - 1) tables ≡ t ∷ drop n tables
    rest =
        let under : n - 1 < length tables = omega (arith, some, so_far.within) in
        let next : suc (n - 1) ≡ n = omega (arith, some) in
        let found : Some (get_or tables (n - 1) t) ≡ Some t = sym (slice_get-get_or tables (n - 1) t under) ∙ at in
        let is : get_or tables (n - 1) t ≡ t = cc in
        drop-cons tables (n - 1) t under ∙ (ap (λ (u : ChipTable). u ∷ drop (suc (n - 1)) tables) is ∙ ap (λ k. t ∷ drop k tables) next)

-- the board has a place for each table's chip
pub chip_has_place : (v : Image) (places : List ℕ) (n : ℕ) (t : ChipTable) → IsValid v → length places ≡ v.width * v.height → n < length v.chips → slice_get v.chips n ≡ Some t →
    t.chip.x * v.height + t.chip.y < length places
chip_has_place v places n t valid long below at =
    let found : Some (get_or v.chips n t) ≡ Some t = sym (slice_get-get_or v.chips n t below) ∙ at in
    let is : get_or v.chips n t ≡ t = cc in
    let inside = (subst (IsTable v.width v.height) is (valid.tables n t below)).inside in
    let less : t.chip.x * v.height + t.chip.y < v.height * v.width = mul-add-lt t.chip.x v.height t.chip.y v.width inside.0 inside.1 in
    omega (arith, long, less)

-- the same where the table is read from a list that is the image's
pub table_read : (v : Image) (items : List ChipTable) (places : List ℕ) (n x h y : ℕ) (d : ChipTable) → IsValid v → items ≡ v.chips →
    x ≡ (get_or items (n - 1) d).chip.x → h ≡ v.height → y ≡ (get_or items (n - 1) d).chip.y → 0 < n →
    TellsFrom v.height v.chips places (v.width * v.height) n → TellsFrom v.height v.chips (set places (x * h + y) (n - 1)) (v.width * v.height) (n - 1)
table_read v items places n x h y d valid same x_is h_is y_is some so_far =
    let t : ChipTable = get_or v.chips (n - 1) d in
    let under : n - 1 < length v.chips = omega (arith, some, so_far.within) in
    let at : slice_get v.chips (n - 1) ≡ Some t = slice_get-get_or v.chips (n - 1) d under in
    let place : x * h + y ≡ table_index v.height t =
    ap (λ k. k * h + y) (x_is ∙ ap (λ (l : List ChipTable). (get_or l (n - 1) d).chip.x) same)
    ∙ (ap (λ k. t.chip.x * k + y) h_is ∙ ap (λ k. t.chip.x * v.height + k) (y_is ∙ ap (λ (l : List ChipTable). (get_or l (n - 1) d).chip.y) same)) in
    tells_more v.height (v.width * v.height) n (x * h + y) v.chips places t some at place
    (subst (λ k. k < length places) (sym place) (chip_has_place v places (n - 1) t valid so_far.long under at)) so_far
