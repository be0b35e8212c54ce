-- The last digit of a number, those before it, and lines that differ in it alone.
use Rattle.run_report.proofs.Common.{Did, List, [], ap, append_assoc, arith, codes, decimal, decimal_digit, decimal_step, did_word, event_front, event_line, length, refl, sym, take, take-append-add}
use Rattle.run_report.proofs.Common.{tens_digits, ℕ, ◌%◌, ◌++◌, ◌+◌, ◌/◌, ◌<◌, ◌^◌, ◌∙◌, ◌∷◌, ◌≡◌}

with_tens : (n tens : ℕ) → n < 2 ^ 64 → n / 10 ≡ tens → tens_digits tens ++ (48 + n % 10) ∷ [] ≡ decimal n
with_tens n tens small is = grind (arith, decimal_digit, decimal_step)

-- the front of an event's tens, then its last digit, and whether it was enabled
pub line_put : (n digit : ℕ) (did : Did) (old front sofar new : List ℕ) → n < 2 ^ 64 → digit ≡ n % 10 → front ≡ event_front (n / 10) →
    sofar ≡ old ++ front → new ≡ sofar ++ (48 + digit) ∷ (32 ∷ (did_word did ++ 10 ∷ [])) → new ≡ old ++ event_line n did
line_put n digit did old front sofar new small is fronted begun ended =
    let rest : List ℕ = 32 ∷ (did_word did ++ 10 ∷ []) in
    let last : List ℕ = (48 + n % 10) ∷ [] in
    ended ∙ ap (λ d. sofar ++ (48 + d) ∷ rest) is ∙ ap (λ l. l ++ (last ++ rest)) (begun ∙ ap (λ f. old ++ f) fronted)
    ∙ append_assoc old (event_front (n / 10)) (last ++ rest)
    ∙ ap (λ l. old ++ (codes "event " ++ l)) (sym (append_assoc (tens_digits (n / 10)) last rest) ∙ ap (λ l. l ++ rest) (with_tens n (n / 10) small refl))

-- a list to which more than is wanted was put, cut back
pub cut_back : {X : Type 0} (old more now : List X) (count len end : ℕ) → count ≡ length old → end ≡ count + len → now ≡ old ++ more → take end now ≡ old ++ take len more
cut_back old more now count len end counted ends put = grind (arith, take-append-add old more len)
