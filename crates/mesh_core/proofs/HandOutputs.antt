-- What is left of the outputs of a hand.
use Rattle.mesh_core.proofs.Common.{Bool, List, None, Out, Some, [], ap, arith, cond, false, if◌then◌else◌, length, out_eq, outs_without, position, position_from, position_from-zero, refl, remove}
use Rattle.mesh_core.proofs.Common.{suc, sym, true, ℕ, ◌+◌, ◌<◌, ◌∙◌, ◌∷◌, ◌≡◌}

-- the place of an output, as it is found, and what is left without it
abbrev IsFound : Out → List Out → ℕ → ℕ → Type 0
IsFound o os n i = (j : ℕ) × (i ≡ n + j) × (j < length os) × (outs_without o os ≡ remove os j)

found_step : (o x : Out) (os : List Out) (n i : ℕ) → (position_from (out_eq o) (n + 1) os ≡ Some i → IsFound o os (n + 1) i) →
    (b : Bool) → out_eq o x ≡ b → cond b (Some n) (position_from (out_eq o) (n + 1) os) ≡ Some i → IsFound o (x ∷ os) n i
found_step o x os n i later true here e = grind arith
found_step o x os n i later false here e =
    let there = later e in
    (suc there.0, omega (arith, there.1), omega (arith, there.2), ap (λ b. if b then os else x ∷ outs_without o os) here ∙ ap (λ l. x ∷ l) there.3)

found_from : (o : Out) (os : List Out) (n i : ℕ) → position_from (out_eq o) n os ≡ Some i → IsFound o os n i
found_from o [] n i e = cc
found_from o (x ∷ os) n i e = found_step o x os n i (found_from o os (n + 1) i) (out_eq o x) refl e

at_zero : (o : Out) (os : List Out) (i : ℕ) → IsFound o os 0 i → (i < length os) × (outs_without o os ≡ remove os i)
at_zero o os i found = grind arith

pub found-below : (o : Out) (os : List Out) (i : ℕ) → position (out_eq o) os ≡ Some i → i < length os
found-below o os i e = (at_zero o os i (found_from o os 0 i (sym (position_from-zero (out_eq o) os) ∙ e))).0

pub without-found : (o : Out) (os : List Out) (i : ℕ) → position (out_eq o) os ≡ Some i → outs_without o os ≡ remove os i
without-found o os i e = (at_zero o os i (found_from o os 0 i (sym (position_from-zero (out_eq o) os) ∙ e))).1

none_from : (o : Out) (os : List Out) (n : ℕ) → position_from (out_eq o) n os ≡ None → outs_without o os ≡ os
none_from o [] n e = refl
none_from o (x ∷ os) n e = grind (arith, none_from o os (n + 1))

pub without-none : (o : Out) (os : List Out) → position (out_eq o) os ≡ None → outs_without o os ≡ os
without-none o os e = none_from o os 0 (sym (position_from-zero (out_eq o) os) ∙ e)

pub ruleset left_outputs = (found-below, without-found, without-none)
