-- What a hole of fixed width writes: the hexadecimal digits of a number, with leading zeros.
use Rattle.run_report.proofs.Common.{List, [], ap, append-nil, append_assoc, arith, digit_glyph, digits_onto, eq-eqb, eq-zero-or-pos, false, format_spec, if◌then◌else◌, inl, inr, length, ne_eqb, refl}
use Rattle.run_report.proofs.Common.{replicate, suc, sym, zero, ℕ, ◌%◌, ◌++◌, ◌+◌, ◌-◌, ◌/◌, ◌<◌, ◌^◌, ◌∙◌, ◌∷◌, ◌≡◌, ◌≤◌}
use Rattle.std.specs.Fmt.{char_count, digits, padded_integral}
use Rattle.run_report.specs.ReportText.{hex}

-- so many zeros
abbrev zeros_of : ℕ → List ℕ
zeros_of k = replicate {A = ℕ} k 48

-- and one more at the end
one_more : (k : ℕ) → ◌++◌ {A = ℕ} (zeros_of k) (48 ∷ []) ≡ zeros_of (suc k)
one_more zero = refl
one_more (suc k) = ap (λ (l : List ℕ). 48 ∷ l) (one_more k)

hex_of_zero : (k : ℕ) → hex k 0 ≡ zeros_of k
unfolding hex
hex_of_zero zero = refl
hex_of_zero (suc k) = ap (λ (l : List ℕ). l ++ 48 ∷ []) (hex_of_zero k) ∙ one_more k

-- the number has at most so many digits
abbrev HasDigits : ℕ → ℕ → Type 0
HasDigits zero n = n ≡ 0
HasDigits (suc k) n = HasDigits k (n / 16)

-- the digits that a display puts before a text, with as many zeros before them as are missing
record IsPadded (k f n : ℕ) (acc : List ℕ) : Type 0 where
  zeros : ℕ
  long : zeros + length (digits_onto f 16 false n acc) ≡ k + length acc
  is : zeros_of zeros ++ digits_onto f 16 false n acc ≡ hex k n ++ acc

last_digit : (k f n : ℕ) (acc : List ℕ) → n / 16 ≡ 0 → IsPadded (suc k) (suc f) n acc
unfolding hex
last_digit k f n acc none =
    let g = digit_glyph false (n % 16) in
    let d : digits_onto (suc f) 16 false n acc ≡ g ∷ acc = ap (λ b. if b then g ∷ acc else digits_onto f 16 false (n / 16) (g ∷ acc)) (eq-eqb (n / 16) 0 none) in
    let h : hex k (n / 16) ≡ zeros_of k = ap (hex k) none ∙ hex_of_zero k in
    let long : length (digits_onto (suc f) 16 false n acc) ≡ 1 + length acc = ap length d ∙ omega arith in
    record {
      zeros = k;
      long = omega (arith, long);
      is = ap (λ l. zeros_of k ++ l) d ∙ sym (append_assoc (zeros_of k) (g ∷ []) acc) ∙ ap (λ l. (l ++ g ∷ []) ++ acc) (sym h);
    }

padded_onto : (k f n : ℕ) (acc : List ℕ) → k ≤ f → HasDigits (suc k) n → IsPadded (suc k) (suc f) n acc
unfolding hex
padded_onto zero f n acc low few = last_digit zero f n acc few
padded_onto (suc k) zero n acc low few = absurd (omega arith)
padded_onto (suc k) (suc f) n acc low few = elim (eq-zero-or-pos (n / 16)) [
  | inl none ↦ last_digit (suc k) (suc f) n acc none
  | inr some ↦
      let g = digit_glyph false (n % 16) in
      let d : digits_onto (suc (suc f)) 16 false n acc ≡ digits_onto (suc f) 16 false (n / 16) (g ∷ acc) =
      ap (λ b. if b then g ∷ acc else digits_onto (suc f) 16 false (n / 16) (g ∷ acc)) (ne_eqb (n / 16) 0 (λ e. omega (arith, some, e)))
      in
      let rest = padded_onto k f (n / 16) (g ∷ acc) (omega arith) few in
      record {
        zeros = rest.zeros;
        long = ap (λ l. rest.zeros + length l) d ∙ rest.long ∙ omega arith;
        is = ap (λ l. zeros_of rest.zeros ++ l) d ∙ rest.is ∙ sym (append_assoc (hex (suc k) (n / 16)) (g ∷ []) acc);
      }
]

-- what a hole of a width with leading zeros writes
zero_padded : (w : ℕ) (ds : List ℕ) → padded_integral (format_spec 32 0 4 w (2 ^ 64 - 1)) false [] ds ≡ zeros_of (w - length ds) ++ ds
unfolding padded_integral char_count
zero_padded w ds = grind (arith, append-nil ds)

hex_text : (k n : ℕ) → k ≤ 63 → HasDigits (suc k) n → padded_integral (format_spec 32 0 4 (suc k) (2 ^ 64 - 1)) false [] (digits 16 false n) ≡ hex (suc k) n
unfolding digits
hex_text k n low few =
    let p = padded_onto k 63 n [] low few in
    let ds = digits_onto 64 16 false n [] in
    let zeros : suc k - length ds ≡ p.zeros = omega (arith, p.long) in
    zero_padded (suc k) ds ∙ ap (λ (z : ℕ). zeros_of z ++ ds) zeros ∙ p.is ∙ append-nil (hex (suc k) n)

pub word_text : (n : ℕ) → n < 2 ^ 32 → padded_integral (format_spec 32 0 4 8 (2 ^ 64 - 1)) false [] (digits 16 false n) ≡ hex 8 n
word_text n small = hex_text 7 n (omega arith) (omega arith)
