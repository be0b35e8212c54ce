-- Edges in the order of their numbers are in their order.
use Rattle.ner_trees.proofs.Common.{All, All-get_or, AllPairs, East, Edge, Err, IfOk, IsEdgeBefore, IsEdgeNumber, IsNonDecreasing, List, Ok, Result, all_dirs, arith, below_six, dir_at}
use Rattle.ner_trees.proofs.Common.{dir_at-dir_number, dir_number, edge_number, edge_numbered, get_or-eq_default, get_or-map, length, length-map, map, slice_index_or, subst, sym, ℕ, ◌%◌, ◌*◌, ◌+◌}
use Rattle.ner_trees.proofs.Common.{◌/◌, ◌<◌, ◌≡◌, ◌≤◌}

pub no_link : (n : ℕ) → 6 ≤ n → dir_at n ≡ East
no_link n more = get_or-eq_default all_dirs East more

-- the digits of a number
pub low_digit : (high low n : ℕ) → n ≡ high * 256 + low → low < 256 → n % 256 ≡ low
low_digit high low n is few = omega (arith, is, few)

second_digit : (x y d n : ℕ) → n ≡ x * 65536 + y * 256 + d → y < 256 → d < 256 → n / 256 % 256 ≡ y
second_digit x y d n is y_few d_few = omega (arith, is, y_few, d_few)

third_digit : (x y d n : ℕ) → n ≡ x * 65536 + y * 256 + d → x < 256 → y < 256 → d < 256 → n / 65536 % 256 ≡ x
third_digit x y d n is x_few y_few d_few = omega (arith, is, x_few, y_few, d_few)

-- an edge has its number alone
pub edge_back : (e : Edge) (n : ℕ) → e.chip.x < 256 → e.chip.y < 256 → n ≡ edge_number e → edge_numbered n ≡ e
edge_back e n x_few y_few is = grind (arith, below_six, third_digit, second_digit, low_digit, dir_at-dir_number)

-- of an edge that comes before another the number is less
number_rises : (e f : Edge) → e.chip.y < 256 → IsEdgeBefore e f → edge_number e < edge_number f
number_rises e f few before = let d : dir_number e.dir < 6 = below_six e.dir in omega arith

not_less : (x y a b : ℕ) → x ≡ a → y ≡ b → y < x → a ≤ b → ⊥
not_less x y a b x_is y_is less no_less = omega (arith, x_is, y_is, less, no_less)

low_row : (n : ℕ) → n / 256 % 256 < 256
low_row n = omega arith

-- edges of numbers that do not fall
pub in_order_edges : (ns : List ℕ) → IsNonDecreasing ns → All IsEdgeNumber ns → AllPairs (λ e f. IsEdgeBefore f e → ⊥) (map edge_numbered ns)
in_order_edges ns up are i j d less short before =
    let shorter : j < length ns = rw length-map at short in
    let first : i < length ns = omega (arith, shorter, less) in
    let a : ℕ = slice_index_or ns i 0 in
    let b : ℕ = slice_index_or ns j 0 in
    let e_is : slice_index_or (map edge_numbered ns) i d ≡ edge_numbered a = get_or-map edge_numbered ns i 0 d first in
    let f_is : slice_index_or (map edge_numbered ns) j d ≡ edge_numbered b = get_or-map edge_numbered ns j 0 d shorter in
    let here : IsEdgeBefore (edge_numbered b) (edge_numbered a) =
    subst (IsEdgeBefore (edge_numbered b)) e_is (subst (λ (f : Edge). IsEdgeBefore f (slice_index_or (map edge_numbered ns) i d)) f_is before) in
    let rises : edge_number (edge_numbered b) < edge_number (edge_numbered a) = number_rises (edge_numbered b) (edge_numbered a) (low_row b) here in
    let a_is : edge_number (edge_numbered a) ≡ a = All-get_or IsEdgeNumber ns i 0 first are in
    let b_is : edge_number (edge_numbered b) ≡ b = All-get_or IsEdgeNumber ns j 0 shorter are in
    let no_less : a ≤ b = up i j 0 (omega (arith, less)) shorter in
    not_less _ _ a b a_is b_is rises no_less

-- an answer of which the items are known
pub ok_items : {V E X : Type 0} (r : Result V E) (items : V → List X) (P : List X → Type 0) (xs : List X) → IfOk r (λ v. items v ≡ xs) → P xs → IfOk r (λ v. P (items v))
ok_items (Ok v) items P xs is holds = subst P (sym is) holds
ok_items (Err e) items P xs is holds = tt
