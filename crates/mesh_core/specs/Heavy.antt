-- Powers that outgrow a router's copies (this project's own).
use Rattle.std.specs.Prelude.{ℕ, ◌*◌}
use Rattle.std.proofs.Common.{zero, suc}

-- powers of 25: more than the 24 marks that come at most where one leaves
unfoldable pub heavy : ℕ → ℕ
heavy zero = 1
heavy (suc n) = 25 * heavy n
