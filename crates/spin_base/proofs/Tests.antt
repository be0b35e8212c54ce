-- What a test tells of the fact that it stands for.
use Rattle.std.proofs.Common.{◌≡◌, ◌↔◌, IsTrue, Bool, true, false, ◌||◌, sym, ap, ◌∙◌}
use Rattle.std.proofs.Math.Bool.{or-false}
use mathlib.Core.Bool.{true≢false, false≢true}

-- a test that came out false tells that its fact does not hold
pub fails : (P : Type 0) (b : Bool) → (IsTrue b) ↔ P → b ≡ false → P → ⊥
fails P b tells came holds = true≢false (sym (tells.1 holds) ∙ came)

-- a test does not come out both ways
pub answers_none : (b : Bool) → b ≡ true → b ≡ false → ⊥
answers_none b t f = true≢false (sym t ∙ f)

-- the answer false, where the fact does not hold
pub answers_no : (P : Type 0) → (P → ⊥) → (IsTrue false) ↔ P
answers_no P not = (λ e. absurd (false≢true e), λ holds. absurd (not holds))

-- a test that came out false adds nothing
pub or_neither : (a b : Bool) → b ≡ false → (a || (b || false)) ≡ a
or_neither a b e = ap (λ z. a || (z || false)) e ∙ or-false a
