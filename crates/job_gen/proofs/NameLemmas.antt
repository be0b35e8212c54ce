-- The names of vertices and nets: a letter and a number. They are names, and different numbers have different ones.
use Rattle.job_gen.proofs.Common.{List, None, Some, [], and_from, arith, bytes_eq, bytes_eq-Decides, decimal, decimal_by_steps, decimal_injective, false, false_from_ne_true, is_name}
use Rattle.job_gen.proofs.Common.{is_printable_byte, le-leb, length, length-decimal-le, list_all, list_all-append, lt-ltb, map, name_place_in, refl, suc, true, zero, ℕ, ◌%◌, ◌++◌, ◌+◌, ◌<◌, ◌^◌, ◌∙◌}
use Rattle.job_gen.proofs.Common.{◌∷◌, ◌≡◌, ◌≤◌}
use Rattle.job_gen.specs.Values.{numbered}

printable : (b : ℕ) → 33 ≤ b → b ≤ 126 → is_printable_byte b ≡ true
printable b low high = and_from _ _ (le-leb 33 b low) (le-leb b 126 high)

one_printable : (n : ℕ) → n < 10 → list_all is_printable_byte ((48 + n) ∷ []) ≡ true
one_printable n below = and_from _ true (printable (48 + n) (omega arith) (omega arith)) refl

digits_printable : (n : ℕ) → n < 2 ^ 64 → list_all is_printable_byte (decimal n) ≡ true
digits_printable n small =
    decimal_by_steps (λ (m : ℕ) (ds : List ℕ). list_all is_printable_byte ds ≡ true)
    one_printable
    (λ (m : ℕ) (ds : List ℕ) ten before. list_all-append is_printable_byte ds ((48 + m % 10) ∷ []) ∙ and_from _ _ before (one_printable (m % 10) (omega arith)))
    n small

-- a letter and a number are a name
pub named : (c i : ℕ) → 33 ≤ c → c ≤ 126 → i < 1000 → is_name (c ∷ decimal i) ≡ true
named c i low high below =
    let short : length (decimal i) ≤ 3 = length-decimal-le 3 i (omega arith) (omega arith) (omega arith) in
    and_from _ _
    (and_from _ _ (lt-ltb 0 (suc (length (decimal i))) (omega arith)) (le-leb (suc (length (decimal i))) 64 (omega arith)))
    (and_from _ _ (printable c low high) (digits_printable i (omega arith)))

pub same_name : (s : List ℕ) → bytes_eq s s ≡ true
same_name s = (bytes_eq-Decides s s).1 refl

number_of_name : (c i j : ℕ) → i < 1000 → j < 1000 → c ∷ decimal i ≡ c ∷ decimal j → i ≡ j
number_of_name c i j small also same = let digits : decimal i ≡ decimal j = cc in decimal_injective i j (omega arith) (omega arith) digits

pub other_name : (c i j : ℕ) → i < 1000 → j < 1000 → (i ≡ j → ⊥) → bytes_eq (c ∷ decimal i) (c ∷ decimal j) ≡ false
other_name c i j small also other = grind (arith, bytes_eq-Decides (c ∷ decimal i) (c ∷ decimal j), false_from_ne_true, number_of_name)

-- names of numbers below i
abbrev pub AreBelow : ℕ → ℕ → List (List ℕ) → Type 0
AreBelow c i [] = Unit {0}
AreBelow c i (s ∷ names) = ((j : ℕ) × (j < i) × (s ≡ c ∷ decimal j)) × AreBelow c i names

pub below_more : (c i : ℕ) (names : List (List ℕ)) → AreBelow c i names → AreBelow c (i + 1) (names ++ (c ∷ decimal i) ∷ [])
below_more c i [] below = ((i, omega arith, refl), tt)
below_more c i (s ∷ names) below = grind (arith, below_more c i names below.1)

-- the name of i is none of them
pub absent : (c i : ℕ) (names : List (List ℕ)) → i < 1000 → AreBelow c i names → name_place_in names (c ∷ decimal i) ≡ None
absent c i [] small below = refl
absent c i (s ∷ names) small below = grind (arith, absent c i names small below.1, other_name)

-- the names of numbered things, and where they stand
pub found : {A B : Type 0} (c : ℕ) (name : B → List ℕ) (f : ℕ → A → B) → ((i : ℕ) (x : A) → name (f i x) ≡ c ∷ decimal i)
    → (i k : ℕ) (xs : List A) → k < length xs → i + length xs ≤ 1000 → name_place_in (map name (numbered f i xs)) (c ∷ decimal (i + k)) ≡ Some k
unfolding numbered
found c name f names i k [] below small = absurd (omega arith)
found c name f names i zero (x ∷ xs) below small = grind (arith, same_name (c ∷ decimal i))
found c name f names i (suc k) (x ∷ xs) below small = grind (arith, found c name f names (i + 1) k xs (omega arith) (omega arith), other_name)
