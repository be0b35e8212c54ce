use Rattle.place_fit.proofs.Common.{ap, arith, one_shl, pow_mono, pow_more, ℕ, ◌*◌, ◌+◌, ◌-◌, ◌^◌, ◌∙◌, ◌≡◌, ◌≤◌}
use Rattle.place_fit.proofs.curves.half_side.Goals as goal

twice : (n : ℕ) → 1 ≤ n → 2 ^ n ≡ 2 ^ (n - 1) * 2
twice n some = let up : n ≡ n - 1 + 1 = omega (arith, some) in ap (λ (k : ℕ). 2 ^ k) up ∙ pow_more 2 (n - 1)

pub returns : goal.returns
returns c = grind (arith, one_shl (c.args.at.level) 8 (omega (arith, c.args.at.small)), pow_mono {j = 6} c.args.at.small, twice)
