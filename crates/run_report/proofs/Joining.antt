-- Texts that are appended one after the other.
use Rattle.run_report.proofs.Common.{List, ap, append_assoc, arith, ℕ, ◌++◌, ◌∙◌, ◌≡◌}

-- one text, and what is appended after it
pub then_more : (a b c x y : List ℕ) → b ≡ a ++ x → c ≡ b ++ y → c ≡ a ++ (x ++ y)
then_more a b c x y e f = f ∙ ap (λ l. l ++ y) e ∙ append_assoc a x y

pub six_appended : (a b c d e f g x y z u v w : List ℕ) → b ≡ a ++ x → c ≡ b ++ y → d ≡ c ++ z → e ≡ d ++ u → f ≡ e ++ v → g ≡ f ++ w → g ≡ a ++ (x ++ (y ++ (z ++ (u ++ (v ++ w)))))
six_appended a b c d e f g x y z u v w p q r s t o = grind (arith, then_more)
