-- A row that is read is spelled so, and what is spelled so is read.
use Rattle.std.proofs.Common.{◌≡◌, ℕ, zero, suc, ◌+◌, ◌-◌, ◌%◌, ◌^◌, ◌<◌, ◌≤◌, true, leb, List, [], ◌∷◌, ◌++◌, length, Result, Ok, Err, refl, sym, ap, subst, ◌∙◌, append_assoc, arith, eq-eqb}
use Rattle.std.specs.{List.flat_map, List.AllByRecursion, Int.w32, Int.to_le_bytes}
use Rattle.std.proofs.{Math.Nat.mod-eq_of_lt, lemmas.Bool.and_parts, lemmas.Bool.and_from, lemmas.Bool.leb-true, lemmas.Bool.le-leb, lemmas.Bool.eqb-true, lemmas.Nat.and_le_r, lemmas.List.append-nil}
use Rattle.std.proofs.lemmas.List.Concat.{flat_map-cons}
use Rattle.spin_base.specs.declared.{routes.Route.Route, blocks.Entry.Entry}
use Rattle.table_load.specs.{declared.faults.Stop.Stop, Images.IsRow, Images.row_bytes, Reading.◌>>=◌, Reading.StopsAt, Reading.AreBytes, Reading.number, Reading.field, Reading.between}
use Rattle.table_load.specs.Reading.{covers, route_of, read_route, read_row, read_rows}
use Rattle.table_load.specs.declared.faults.Stop.TheVariants as stops
use Rattle.spin_base.proofs.RouteBits.{same_route}
use Rattle.table_load.proofs.Numbers.{with_front, front_more, bind_ok, ok_is, Takes, Takes-then, wide32, number_takes, number_again, field_takes, field_again, field_allows}

-- ---- bounds

pub between_is : (least most n : ℕ) → between least most n ≡ true → (least ≤ n) × (n ≤ most)
between_is least most n e = let p = and_parts (leb least n) (leb n most) e in (leb-true _ _ p.0, leb-true _ _ p.1)

pub between_from : (least most n : ℕ) → least ≤ n → n ≤ most → between least most n ≡ true
between_from least most n low high = and_from (leb least n) (leb n most) (le-leb _ _ low) (le-leb _ _ high)

-- ---- routes

-- a route is its number
pub one_route : (a b : ℕ) (s : a < 2 ^ 24) (t : b < 2 ^ 24) → a ≡ b → ◌≡◌ {A = Route} (record { bits = a; within = s }) (record { bits = b; within = t })
one_route a b s t e = same_route (record { bits = a; within = s }) (record { bits = b; within = t }) e

pub route_again_of : (r : Route) → route_of r.bits ≡ r
route_again_of r = one_route (r.bits % 2 ^ 24) r.bits _ r.within (mod-eq_of_lt r.within)

pub route_made : (n : ℕ) (s : n < 2 ^ 24) → route_of n ≡ record { bits = n; within = s }
route_made n s = one_route (n % 2 ^ 24) n _ s (mod-eq_of_lt s)

pub route_small : (bytes : List ℕ) (x : ℕ × List ℕ) → field w32 (between 1 0xffffff) bytes ≡ Ok x → x.0 < 2 ^ 24
route_small bytes x e = let b = between_is 1 0xffffff x.0 (field_allows w32 (between 1 0xffffff) bytes x e) in omega (arith, b)

pub route_is : (bytes : List ℕ) (n : ℕ) (rest : List ℕ) (s : n < 2 ^ 24) → field w32 (between 1 0xffffff) bytes ≡ Ok (n, rest) → read_route bytes ≡ Ok (record { bits = n; within = s }, rest)
unfolding read_route
route_is bytes n rest s e = rw e (ap (λ (r : Route). Ok (r, rest)) (route_made n s))

-- the spelling of a route, and some output
abbrev pub IsSpelled : List ℕ → Route × List ℕ → Type 0
IsSpelled bytes x = Takes bytes (to_le_bytes w32 x.0.bits) x.1 × (0 < x.0.bits)

route_takes : (bytes : List ℕ) (x : Route × List ℕ) → AreBytes bytes → read_route bytes ≡ Ok x → IsSpelled bytes x
unfolding read_route
route_takes bytes x fits e =
    let a = bind_ok (field w32 (between 1 0xffffff) bytes) (λ n. Ok (route_of n.0, n.1)) x e in
    let t = field_takes w32 (2 ^ 32) wide32 (between 1 0xffffff) bytes a.0 fits a.1 in
    let b = between_is 1 0xffffff a.0.0 t.2 in
    let lt : a.0.0 < 2 ^ 24 = omega (arith, b) in
    let same : (route_of a.0.0).bits ≡ a.0.0 = mod-eq_of_lt lt in
    let made : Route × List ℕ = (route_of a.0.0, a.0.1) in
    subst (IsSpelled bytes) (ok_is made x a.2) (
      subst (λ (n : ℕ). Takes bytes (to_le_bytes w32 n) a.0.1) (sym same) t.0,
      omega (arith, b, same),
    )

route_again : (r : Route) (rest : List ℕ) → 0 < r.bits → read_route (to_le_bytes w32 r.bits ++ rest) ≡ Ok (r, rest)
unfolding read_route
route_again r rest some =
    let below : r.bits < 2 ^ 24 = r.within in
    rw (field_again w32 (2 ^ 32) wide32 (between 1 0xffffff) r.bits rest (omega arith) (between_from 1 0xffffff r.bits (omega arith) (omega arith)))
    (ap (λ (t : Route). Ok (t, rest)) (route_again_of r))

-- ---- rows

row_takes : (bytes : List ℕ) (x : Entry × List ℕ) → AreBytes bytes → read_row bytes ≡ Ok x → Takes bytes (row_bytes x.0) x.1 × IsRow x.0
unfolding read_row
row_takes bytes x fits e =
    let a = bind_ok (number w32 bytes) (λ key. field w32 (covers key.0) key.1 >>= λ mask. read_route mask.1 >>= λ route. Ok (record { key = key.0; mask = mask.0; route = route.0 }, route.1)) x e in
    let b = bind_ok (field w32 (covers a.0.0) a.0.1) (λ mask. read_route mask.1 >>= λ route. Ok (record { key = a.0.0; mask = mask.0; route = route.0 }, route.1)) x a.2 in
    let c = bind_ok (read_route b.0.1) (λ route. Ok (record { key = a.0.0; mask = b.0.0; route = route.0 }, route.1)) x b.2 in
    let t0 = number_takes w32 (2 ^ 32) wide32 bytes a.0 fits a.1 in
    let t1 = field_takes w32 (2 ^ 32) wide32 (covers a.0.0) a.0.1 b.0 t0.0.rest_fits b.1 in
    let t2 = route_takes b.0.1 c.0 t1.0.rest_fits c.1 in
    let both = Takes-then bytes (to_le_bytes w32 a.0.0) a.0.1 (to_le_bytes w32 b.0.0) b.0.1 t0.0 t1.0 in
    let all = Takes-then bytes (to_le_bytes w32 a.0.0 ++ to_le_bytes w32 b.0.0) b.0.1 (to_le_bytes w32 c.0.0.bits) c.0.1 both t2.0 in
    let made : Entry × List ℕ = (record { key = a.0.0; mask = b.0.0; route = c.0.0 }, c.0.1) in
    subst (λ (y : Entry × List ℕ). Takes bytes (row_bytes y.0) y.1 × IsRow y.0) (ok_is made x c.2) (all, (eqb-true _ _ t1.2, t1.1, t2.1))

row_again : (e : Entry) (rest : List ℕ) → IsRow e → read_row (row_bytes e ++ rest) ≡ Ok (e, rest)
unfolding read_row
row_again e rest row =
    let k = to_le_bytes w32 e.key in
    let m = to_le_bytes w32 e.mask in
    let r = to_le_bytes w32 e.route.bits in
    let regrouped : row_bytes e ++ rest ≡ k ++ (m ++ (r ++ rest)) = append_assoc (k ++ m) r rest ∙ append_assoc k m (r ++ rest) in
    let small : e.key < 2 ^ 32 = let same = row.0 in let lt = row.1 in omega (arith, and_le_r e.key e.mask, same, lt) in
    ap read_row regrouped ∙ rw (
      number_again w32 (2 ^ 32) wide32 e.key (m ++ (r ++ rest)) small,
      field_again w32 (2 ^ 32) wide32 (covers e.key) e.mask (r ++ rest) row.1 (eq-eqb _ _ row.0),
      route_again e.route rest row.2,
    ) refl

pub rows_take : (n : ℕ) (bytes : List ℕ) (x : List Entry × List ℕ) → AreBytes bytes → read_rows n bytes ≡ Ok x → Takes bytes (flat_map row_bytes x.0) x.1 × (length x.0 ≡ n) × AllByRecursion IsRow x.0
unfolding read_rows
rows_take zero bytes x fits e = grind (arith, Takes, ok_is)
rows_take (suc n) bytes x fits e =
    let a = bind_ok (read_row bytes) (λ first. read_rows n first.1 >>= λ others. Ok (first.0 ∷ others.0, others.1)) x e in
    let b = bind_ok (read_rows n a.0.1) (λ others. Ok (a.0.0 ∷ others.0, others.1)) x a.2 in
    let first = row_takes bytes a.0 fits a.1 in
    let second = rows_take n a.0.1 b.0 first.0.rest_fits b.1 in
    let both = Takes-then bytes (row_bytes a.0.0) a.0.1 (flat_map row_bytes b.0.0) b.0.1 first.0 second.0 in
    let made : List Entry × List ℕ = (a.0.0 ∷ b.0.0, b.0.1) in
    subst (λ (y : List Entry × List ℕ). Takes bytes (flat_map row_bytes y.0) y.1 × (length y.0 ≡ suc n) × AllByRecursion IsRow y.0) (ok_is made x b.2) (rw flat_map-cons both, ap suc second.1, (first.1, second.2))

pub rows_again : (es : List Entry) (rest : List ℕ) → AllByRecursion IsRow es → read_rows (length es) (flat_map row_bytes es ++ rest) ≡ Ok (es, rest)
unfolding read_rows
rows_again [] rest rows = refl
rows_again (e ∷ es) rest rows =
    let regrouped : flat_map row_bytes (e ∷ es) ++ rest ≡ row_bytes e ++ (flat_map row_bytes es ++ rest) = ap (λ (x : List ℕ). x ++ rest) (flat_map-cons row_bytes e es) ∙ append_assoc (row_bytes e) (flat_map row_bytes es) rest in
    ap (read_rows (suc (length es))) regrouped ∙ rw (row_again e (flat_map row_bytes es ++ rest) rows.0, rows_again es rest rows.1) refl

-- ---- the loop

pub goes_on : (front : List Entry) (count i : ℕ) (bytes : List ℕ) (e : Entry) (after : List ℕ) (total : Result (List Entry × List ℕ) ℕ) → i < count → read_row bytes ≡ Ok (e, after)
    → with_front front (read_rows (count - i) bytes) ≡ total → with_front (front ++ e ∷ []) (read_rows (count - (i + 1)) after) ≡ total
unfolding read_rows
goes_on front count i bytes e after total lt h so_far =
    let k : count - i ≡ suc (count - (i + 1)) = omega arith in
    let one : with_front front (read_rows (count - i) bytes) ≡ with_front (front ++ e ∷ []) (read_rows (count - (i + 1)) after) = rw (k, h) (front_more front e (read_rows (count - (i + 1)) after)) in
    sym one ∙ so_far

pub ends : (s : Stop) (front : List Entry) (count i : ℕ) (bytes : List ℕ) (total : Result (List Entry × List ℕ) ℕ) → i < count → StopsAt s (read_row bytes)
    → with_front front (read_rows (count - i) bytes) ≡ total → StopsAt s total
unfolding read_rows
ends stops.Memory front count i bytes total lt h so_far = tt
ends (stops.Left n) front count i bytes total lt h so_far =
    let k : count - i ≡ suc (count - (i + 1)) = omega arith in
    let one : with_front front (read_rows (count - i) bytes) ≡ Err n = rw (k, h) refl in
    sym so_far ∙ one

pub is_done : (front : List Entry) (count i : ℕ) (bytes : List ℕ) (total : Result (List Entry × List ℕ) ℕ) → count ≤ i → with_front front (read_rows (count - i) bytes) ≡ total → total ≡ Ok (front, bytes)
unfolding read_rows
is_done front count i bytes total le so_far = grind (arith, append-nil)
