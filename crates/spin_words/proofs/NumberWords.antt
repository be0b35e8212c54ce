-- Which words write a number: `0`, or digits without a leading 0.
use Rattle.std.proofs.Common.{rules, ◌≡◌, ℕ, ◌<◌, ◌^◌, List, length, get_or, Bool, true, false, not, nat_lt, nat_eq, Some, None, Result, Ok, Err, refl, ap, sym, ◌∙◌, arith, subst}
use Rattle.std.specs.{Prelude.◌&&◌, Prelude.if◌then◌else◌, List.list_all, Char.is_ascii_digit, Str.Parse.ParsesUnsigned, Str.Parse.digits_value}
use Rattle.std.proofs.lemmas.{Bool.cond-true, Bool.cond-false, Bool.eqb-true, Bool.lt-ltb, Bool.ltb-true, Str.Parse.IsNumeralModel, Str.Parse.numerals_by_value, Str.Parse.parse_digits}
use Rattle.spin_words.specs.Commands.{is_numeral, number_in}

-- texts of digits, and the numbers that they write
own : IsNumeralModel (λ ds. list_all is_ascii_digit ds ≡ true) (digits_value 10)
own = numerals_by_value _ (search rules)

and_false : (b : Bool) → (b && false) ≡ false
and_false true = refl
and_false false = refl

not_less : (n m : ℕ) → (n < m → ⊥) → nat_lt n m ≡ false
not_less n m never = by_cases (nat_lt n m) refl
  where
    by_cases : (b : Bool) → nat_lt n m ≡ b → b ≡ false
    by_cases false e = refl
    by_cases true e = absurd (never (ltb-true n m e))

-- ---- what a word must have

no_numeral : (bs : List ℕ) → is_numeral bs ≡ false → None ≡ number_in bs
unfolding number_in
no_numeral bs e = sym (ap (λ (b : Bool). if b && nat_lt (digits_value 10 bs) (2 ^ 64) then Some (digits_value 10 bs) else None) e)

pub number-empty : (bs : List ℕ) → length bs ≡ 0 → None ≡ number_in bs
number-empty bs empty = no_numeral bs (ap (λ n. nat_lt 0 n && (list_all is_ascii_digit bs && not (nat_eq (get_or bs 0 0) 48 && nat_lt 1 (length bs)))) empty)

pub number-other : (bs : List ℕ) → list_all is_ascii_digit bs ≡ false → None ≡ number_in bs
number-other bs other = no_numeral bs
    (ap (λ b. nat_lt 0 (length bs) && (b && not (nat_eq (get_or bs 0 0) 48 && nat_lt 1 (length bs)))) other ∙ and_false (nat_lt 0 (length bs)))

pub number-zero : (bs : List ℕ) → list_all is_ascii_digit bs ≡ true → get_or bs 0 0 ≡ 48 → 1 < length bs → None ≡ number_in bs
number-zero bs digits first long = no_numeral bs
    (ap (λ b. nat_lt 0 (length bs) && (b && not (nat_eq (get_or bs 0 0) 48 && nat_lt 1 (length bs)))) digits
    ∙ (ap (λ n. nat_lt 0 (length bs) && not (nat_eq n 48 && nat_lt 1 (length bs))) first
    ∙ (ap (λ b. nat_lt 0 (length bs) && not b) (lt-ltb 1 (length bs) long)
    ∙ and_false (nat_lt 0 (length bs)))))

-- ---- digits

lead_of : (d n : ℕ) → (d ≡ 48 → n ≡ 1) → (nat_eq d 48 && nat_lt 1 n) ≡ false
lead_of d n lead = by_cases (nat_eq d 48) refl
  where
    by_cases : (b : Bool) → nat_eq d 48 ≡ b → (b && nat_lt 1 n) ≡ false
    by_cases false e = refl
    by_cases true e = not_less 1 n (λ less. omega (arith, lead (eqb-true d 48 e), less))

is_numeral-true : (bs : List ℕ) → list_all is_ascii_digit bs ≡ true → 0 < length bs → (get_or bs 0 0 ≡ 48 → length bs ≡ 1) → is_numeral bs ≡ true
is_numeral-true bs digits some lead =
    ap (λ b. b && (list_all is_ascii_digit bs && not (nat_eq (get_or bs 0 0) 48 && nat_lt 1 (length bs)))) (lt-ltb 0 (length bs) some)
    ∙ (ap (λ b. b && not (nat_eq (get_or bs 0 0) 48 && nat_lt 1 (length bs))) digits
    ∙ ap not (lead_of (get_or bs 0 0) (length bs) lead))

of_numeral : (bs : List ℕ) → is_numeral bs ≡ true → number_in bs ≡ (if nat_lt (digits_value 10 bs) (2 ^ 64) then Some (digits_value 10 bs) else None)
unfolding number_in
of_numeral bs e = ap (λ (b : Bool). if b && nat_lt (digits_value 10 bs) (2 ^ 64) then Some (digits_value 10 bs) else None) e

-- what parsing gives is the number that the digits write
pub number-parsed : {E : Type 0} (bs : List ℕ) (r : Result ℕ E) (x : ℕ) → ParsesUnsigned 64 10 bs r → r ≡ Ok x → list_all is_ascii_digit bs ≡ true → 0 < length bs → (get_or bs 0 0 ≡ 48 → length bs ≡ 1) → Some x ≡ number_in bs
number-parsed {E} bs r x h is digits some lead =
    let P : Result ℕ E → Type 0 = λ r. ParsesUnsigned 64 10 bs r in
    let given = parse_digits own {E = E} 64 bs (Ok x) (subst P is h) digits in
    ap Some given.1
    ∙ sym (of_numeral bs (is_numeral-true bs digits some lead) ∙ cond-true (nat_lt (digits_value 10 bs) (2 ^ 64)) (Some (digits_value 10 bs)) None (lt-ltb (digits_value 10 bs) (2 ^ 64) given.0.1))

-- digits that do not parse write no number below 2^64
pub number-unparsed : {E : Type 0} (bs : List ℕ) (r : Result ℕ E) (x : E) → ParsesUnsigned 64 10 bs r → r ≡ Err x → list_all is_ascii_digit bs ≡ true → 0 < length bs → (get_or bs 0 0 ≡ 48 → length bs ≡ 1) → None ≡ number_in bs
number-unparsed {E} bs r x h is digits some lead =
    let P : Result ℕ E → Type 0 = λ r. ParsesUnsigned 64 10 bs r in
    let given = parse_digits own {E = E} 64 bs (Err x) (subst P is h) digits in
    sym (of_numeral bs (is_numeral-true bs digits some lead)
    ∙ cond-false (nat_lt (digits_value 10 bs) (2 ^ 64)) (Some (digits_value 10 bs)) None (not_less (digits_value 10 bs) (2 ^ 64) (λ less. given (some, less))))
