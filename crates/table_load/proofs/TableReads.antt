-- Tables that are read are spelled so, and what is spelled so is read.
use Rattle.std.proofs.Common.{◌≡◌, ℕ, zero, suc, ◌+◌, ◌-◌, ◌^◌, ◌<◌, ◌≤◌, Bool, true, eqb, ltb, ◌&&◌, List, [], ◌∷◌, ◌++◌, length, All, Option, Some, None, Result, Ok, Err, refl, sym, ap, subst, ◌∙◌}
use Rattle.std.proofs.Common.{append_assoc, arith, eq-eqb, inl, inr}
use Rattle.std.specs.{List.flat_map, List.AllByRecursion, List.AllPairs, Int.w8, Int.w16, Int.to_le_bytes}
use Rattle.std.proofs.lemmas.{Bool.and_parts, Bool.and_from, Bool.or_cases, Bool.or_left, Bool.or_right, Bool.ltb-true, Bool.lt-ltb, Bool.eqb-true, List.append-nil, List.Concat.flat_map-cons}
use Rattle.std.proofs.lemmas.List.{Elements.All-from_recursion, Elements.recursion_from_All, Elements.All-nil, Kept.AllPairs-cons}
use Rattle.spin_base.specs.declared.{chips.Chip.Chip, blocks.ChipTable.ChipTable}
use Rattle.table_load.specs.{declared.faults.Stop.Stop, Images.IsRow, Images.IsChipBefore, Images.IsTable, Images.row_bytes, Images.table_bytes, Reading.◌>>=◌, Reading.StopsAt, Reading.AreBytes}
use Rattle.table_load.specs.Reading.{field, between, comes_after, read_chip, read_rows, read_table, read_tables}
use Rattle.table_load.specs.declared.faults.Stop.TheVariants as stops
use Rattle.table_load.proofs.Numbers.{with_front, front_more, bind_ok, ok_is, Takes, Takes-then, wide8, wide16, byte_is, field_takes, field_again}
use Rattle.table_load.proofs.Rows.{between_is, between_from, rows_take, rows_again}

-- ---- the order of chips

after_is : (b c : Chip) → comes_after (Some b) c ≡ true → IsChipBefore b c
after_is b c e = grind (arith, or_cases, ltb-true, and_parts, eqb-true)

after_from : (b c : Chip) → IsChipBefore b c → comes_after (Some b) c ≡ true
after_from b c (inl less) = or_left (ltb b.x c.x) (eqb b.x c.x && ltb b.y c.y) (lt-ltb _ _ less)
after_from b c (inr same) = or_right (ltb b.x c.x) (eqb b.x c.x && ltb b.y c.y) (and_from (eqb b.x c.x) (ltb b.y c.y) (eq-eqb _ _ same.0) (lt-ltb _ _ same.1))

before_trans : (a b c : Chip) → IsChipBefore a b → IsChipBefore b c → IsChipBefore a c
before_trans a b c (inl p) (inl q) = inl (omega arith)
before_trans a b c (inl p) (inr q) = let e = q.0 in inl (omega (arith, e))
before_trans a b c (inr p) (inl q) = let e = p.0 in inl (omega (arith, e))
before_trans a b c (inr p) (inr q) = let e = p.1 in let f = q.1 in inr (p.0 ∙ q.0, omega (arith, e, f))

-- each table's chip comes after that of the table before it, and the first after the one given
abbrev pub InOrder : Option Chip → List ChipTable → Type 0
InOrder before [] = Unit {0}
InOrder before (t ∷ ts) = (comes_after before t.chip ≡ true) × InOrder (Some t.chip) ts

abbrev pub Earlier : ChipTable → ChipTable → Type 0
Earlier s t = IsChipBefore s.chip t.chip

all_after : (b c : Chip) (ts : List ChipTable) → IsChipBefore b c → InOrder (Some c) ts → AllByRecursion (λ t. IsChipBefore b t.chip) ts
all_after b c [] less order = tt
all_after b c (t ∷ ts) less order =
    let next = before_trans b c t.chip less (after_is c t.chip order.0) in
    (next, all_after b t.chip ts next order.1)

first_before : (t : ChipTable) (ts : List ChipTable) → InOrder (Some t.chip) ts → All (Earlier t) ts
first_before t [] order = All-nil (Earlier t)
first_before t (u ∷ us) order =
    let next = after_is t.chip u.chip order.0 in
    All-from_recursion (Earlier t) (u ∷ us) (next, all_after t.chip u.chip us next order.1)

pub pairs_from_order : (before : Option Chip) (ts : List ChipTable) → InOrder before ts → AllPairs Earlier ts
pairs_from_order before [] order = λ i j d less inside. absurd (omega arith)
pairs_from_order before (t ∷ ts) order = AllPairs-cons Earlier t ts (first_before t ts order.1) (pairs_from_order (Some t.chip) ts order.1)

order_behind : (t : ChipTable) (ts : List ChipTable) → AllPairs Earlier (t ∷ ts) → InOrder (Some t.chip) ts
order_behind t [] pairs = tt
order_behind t (u ∷ us) pairs = (
  after_from t.chip u.chip (pairs 0 1 t (omega arith) (omega arith)),
  order_behind u us (λ i j d less inside. pairs (suc i) (suc j) d (omega arith) (omega arith)),
)

pub order_from_pairs : (ts : List ChipTable) → AllPairs Earlier ts → InOrder None ts
order_from_pairs [] pairs = tt
order_from_pairs (t ∷ ts) pairs = (refl, order_behind t ts pairs)

-- ---- a chip

two_bytes : (a b : ℕ) → a < 256 → b < 256 → to_le_bytes w8 a ++ to_le_bytes w8 b ≡ a ∷ b ∷ []
two_bytes a b p q = ap (λ (l : List ℕ). l ++ to_le_bytes w8 b) (byte_is a p) ∙ ap (λ (l : List ℕ). (a ∷ []) ++ l) (byte_is b q)

abbrev IsChipRead : ℕ → ℕ → Option Chip → List ℕ → Chip × List ℕ → Type 0
IsChipRead w h before bytes x = Takes bytes (x.0.x ∷ x.0.y ∷ []) x.1 × ((x.0.x < w) × (x.0.y < h)) × (comes_after before x.0 ≡ true)

chip_takes : (w h : ℕ) (before : Option Chip) (bytes : List ℕ) (x : Chip × List ℕ) → AreBytes bytes → read_chip w h before bytes ≡ Ok x → IsChipRead w h before bytes x
unfolding read_chip
chip_takes w h before bytes x fits e =
    let below_w : ℕ → Bool = λ n. ltb n w in
    let next : ℕ → ℕ → Bool = λ k n. ltb n h && comes_after before (record { x = k; y = n }) in
    let a = bind_ok (field w8 below_w bytes) (λ k. field w8 (next k.0) k.1 >>= λ n. Ok (record { x = k.0; y = n.0 }, n.1)) x e in
    let b = bind_ok (field w8 (next a.0.0) a.0.1) (λ n. Ok (record { x = a.0.0; y = n.0 }, n.1)) x a.2 in
    let t0 = field_takes w8 (2 ^ 8) wide8 below_w bytes a.0 fits a.1 in
    let t1 = field_takes w8 (2 ^ 8) wide8 (next a.0.0) a.0.1 b.0 t0.0.rest_fits b.1 in
    let p = and_parts (ltb b.0.0 h) (comes_after before (record { x = a.0.0; y = b.0.0 })) t1.2 in
    let both = Takes-then bytes (to_le_bytes w8 a.0.0) a.0.1 (to_le_bytes w8 b.0.0) b.0.1 t0.0 t1.0 in
    let spelled = two_bytes a.0.0 b.0.0 t0.1 t1.1 in
    let made : Chip × List ℕ = (record { x = a.0.0; y = b.0.0 }, b.0.1) in
    subst (IsChipRead w h before bytes) (ok_is made x b.2) (
      subst (λ (l : List ℕ). Takes bytes l b.0.1) spelled both,
      (ltb-true _ _ t0.2, ltb-true _ _ p.0),
      p.1,
    )

chip_again : (w h : ℕ) (before : Option Chip) (c : Chip) (rest : List ℕ) → w ≤ 64 → h ≤ 64 → c.x < w → c.y < h → comes_after before c ≡ true
    → read_chip w h before ((c.x ∷ c.y ∷ []) ++ rest) ≡ Ok (c, rest)
unfolding read_chip
chip_again w h before c rest narrow short xs ys order =
    let below_w : ℕ → Bool = λ n. ltb n w in
    let next : ℕ → Bool = λ n. ltb n h && comes_after before (record { x = c.x; y = n }) in
    let one : field w8 below_w (c.x ∷ c.y ∷ rest) ≡ Ok (c.x, c.y ∷ rest) =
    ap (λ (l : List ℕ). field w8 below_w (l ++ (c.y ∷ rest))) (sym (byte_is c.x (omega arith))) ∙ field_again w8 (2 ^ 8) wide8 below_w c.x (c.y ∷ rest) (omega arith) (lt-ltb _ _ xs) in
    let two : field w8 next (c.y ∷ rest) ≡ Ok (c.y, rest) =
    ap (λ (l : List ℕ). field w8 next (l ++ rest)) (sym (byte_is c.y (omega arith))) ∙ field_again w8 (2 ^ 8) wide8 next c.y rest (omega arith) (and_from (ltb c.y h) (comes_after before c) (lt-ltb _ _ ys) order) in
    rw (one, two) refl

-- ---- a table

abbrev IsTableRead : ℕ → ℕ → Option Chip → List ℕ → ChipTable × List ℕ → Type 0
IsTableRead w h before bytes x = Takes bytes (table_bytes x.0) x.1 × IsTable w h x.0 × (comes_after before x.0.chip ≡ true)

table_takes : (w h : ℕ) (before : Option Chip) (bytes : List ℕ) (x : ChipTable × List ℕ) → AreBytes bytes → read_table w h before bytes ≡ Ok x → IsTableRead w h before bytes x
unfolding read_table
table_takes w h before bytes x fits e =
    let a = bind_ok (read_chip w h before bytes) (λ chip. field w16 (between 1 1024) chip.1 >>= λ count. read_rows count.0 count.1 >>= λ rows. Ok (record { chip = chip.0; entries = rows.0 }, rows.1)) x e in
    let b = bind_ok (field w16 (between 1 1024) a.0.1) (λ count. read_rows count.0 count.1 >>= λ rows. Ok (record { chip = a.0.0; entries = rows.0 }, rows.1)) x a.2 in
    let c = bind_ok (read_rows b.0.0 b.0.1) (λ rows. Ok (record { chip = a.0.0; entries = rows.0 }, rows.1)) x b.2 in
    let t0 = chip_takes w h before bytes a.0 fits a.1 in
    let t1 = field_takes w16 (2 ^ 16) wide16 (between 1 1024) a.0.1 b.0 t0.0.rest_fits b.1 in
    let t2 = rows_take b.0.0 b.0.1 c.0 t1.0.rest_fits c.1 in
    let bounds = between_is 1 1024 b.0.0 t1.2 in
    let long = t2.1 in
    let second : Takes a.0.1 (to_le_bytes w16 (length c.0.0)) b.0.1 = subst (λ (n : ℕ). Takes a.0.1 (to_le_bytes w16 n) b.0.1) (sym long) t1.0 in
    let both = Takes-then bytes (a.0.0.x ∷ a.0.0.y ∷ []) a.0.1 (to_le_bytes w16 (length c.0.0)) b.0.1 t0.0 second in
    let all = Takes-then bytes ((a.0.0.x ∷ a.0.0.y ∷ []) ++ to_le_bytes w16 (length c.0.0)) b.0.1 (flat_map row_bytes c.0.0) c.0.1 both t2.0 in
    let made : ChipTable × List ℕ = (record { chip = a.0.0; entries = c.0.0 }, c.0.1) in
    subst (IsTableRead w h before bytes) (ok_is made x c.2) (
      all,
      record {
        inside = t0.1;
        some_rows = (omega (arith, long, bounds), omega (arith, long, bounds));
        rows = All-from_recursion IsRow c.0.0 t2.2;
      },
      t0.2,
    )

table_again : (w h : ℕ) (before : Option Chip) (t : ChipTable) (rest : List ℕ) → w ≤ 64 → h ≤ 64 → IsTable w h t → comes_after before t.chip ≡ true
    → read_table w h before (table_bytes t ++ rest) ≡ Ok (t, rest)
unfolding read_table
table_again w h before t rest narrow short table order =
    let c = t.chip.x ∷ t.chip.y ∷ [] in
    let n = to_le_bytes w16 (length t.entries) in
    let r = flat_map row_bytes t.entries in
    let regrouped : table_bytes t ++ rest ≡ c ++ (n ++ (r ++ rest)) = append_assoc (c ++ n) r rest ∙ append_assoc c n (r ++ rest) in
    let some = table.some_rows in
    ap (read_table w h before) regrouped ∙ rw (
      chip_again w h before t.chip (n ++ (r ++ rest)) narrow short table.inside.0 table.inside.1 order,
      field_again w16 (2 ^ 16) wide16 (between 1 1024) (length t.entries) (r ++ rest) (omega (arith, some)) (between_from 1 1024 (length t.entries) some.0 some.1),
      rows_again t.entries rest (recursion_from_All IsRow t.entries table.rows),
    ) refl

-- ---- tables

abbrev pub AreTablesRead : ℕ → ℕ → ℕ → Option Chip → List ℕ → List ChipTable × List ℕ → Type 0
AreTablesRead w h n before bytes x =
    Takes bytes (flat_map table_bytes x.0) x.1 × (length x.0 ≡ n) × AllByRecursion (IsTable w h) x.0 × InOrder before x.0

pub tables_take : (w h n : ℕ) (before : Option Chip) (bytes : List ℕ) (x : List ChipTable × List ℕ) → AreBytes bytes → read_tables w h n before bytes ≡ Ok x → AreTablesRead w h n before bytes x
unfolding read_tables
tables_take w h zero before bytes x fits e = grind (arith, ok_is)
tables_take w h (suc n) before bytes x fits e =
    let a = bind_ok (read_table w h before bytes) (λ first. read_tables w h n (Some first.0.chip) first.1 >>= λ others. Ok (first.0 ∷ others.0, others.1)) x e in
    let b = bind_ok (read_tables w h n (Some a.0.0.chip) a.0.1) (λ others. Ok (a.0.0 ∷ others.0, others.1)) x a.2 in
    let first = table_takes w h before bytes a.0 fits a.1 in
    let second = tables_take w h n (Some a.0.0.chip) a.0.1 b.0 first.0.rest_fits b.1 in
    let both = Takes-then bytes (table_bytes a.0.0) a.0.1 (flat_map table_bytes b.0.0) b.0.1 first.0 second.0 in
    let made : List ChipTable × List ℕ = (a.0.0 ∷ b.0.0, b.0.1) in
    subst (AreTablesRead w h (suc n) before bytes) (ok_is made x b.2) (rw flat_map-cons both, ap suc second.1, (first.1, second.2), (first.2, second.3))

pub tables_again : (w h : ℕ) (before : Option Chip) (ts : List ChipTable) (rest : List ℕ) → w ≤ 64 → h ≤ 64 → AllByRecursion (IsTable w h) ts → InOrder before ts
    → read_tables w h (length ts) before (flat_map table_bytes ts ++ rest) ≡ Ok (ts, rest)
unfolding read_tables
tables_again w h before [] rest narrow short tables order = refl
tables_again w h before (t ∷ ts) rest narrow short tables order =
    let regrouped : flat_map table_bytes (t ∷ ts) ++ rest ≡ table_bytes t ++ (flat_map table_bytes ts ++ rest) =
    ap (λ (x : List ℕ). x ++ rest) (flat_map-cons table_bytes t ts) ∙ append_assoc (table_bytes t) (flat_map table_bytes ts) rest in
    ap (read_tables w h (suc (length ts)) before) regrouped ∙ rw (
      table_again w h before t (flat_map table_bytes ts ++ rest) narrow short tables.0 order.0,
      tables_again w h (Some t.chip) ts rest narrow short tables.1 order.1,
    ) refl

-- ---- the loop

module _ (w h : ℕ) (front : List ChipTable) (count i : ℕ) (before : Option Chip) (bytes : List ℕ) (total : Result (List ChipTable × List ℕ) ℕ)
    (so_far : with_front front (read_tables w h (count - i) before bytes) ≡ total) where
  pub goes_on : (t : ChipTable) (after : List ℕ) → i < count → read_table w h before bytes ≡ Ok (t, after)
      → with_front (front ++ t ∷ []) (read_tables w h (count - (i + 1)) (Some t.chip) after) ≡ total
  unfolding read_tables
  goes_on t after lt read =
      let k : count - i ≡ suc (count - (i + 1)) = omega arith in
      let one : with_front front (read_tables w h (count - i) before bytes) ≡ with_front (front ++ t ∷ []) (read_tables w h (count - (i + 1)) (Some t.chip) after) =
      rw (k, read) (front_more front t (read_tables w h (count - (i + 1)) (Some t.chip) after)) in
      sym one ∙ so_far

  left : (n : ℕ) → i < count → read_table w h before bytes ≡ Err n → total ≡ Err n
  unfolding read_tables
  left n lt read = grind arith

  pub ends : (s : Stop) → i < count → StopsAt s (read_table w h before bytes) → StopsAt s total
  ends stops.Memory lt read = tt
  ends (stops.Left n) lt read = left n lt read

  pub is_done : count ≤ i → total ≡ Ok (front, bytes)
  unfolding read_tables
  is_done le = grind (arith, append-nil)
