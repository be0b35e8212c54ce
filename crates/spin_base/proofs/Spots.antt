-- The outputs that lead to the spots of a chip: two spots of one chip have two outputs.
use Rattle.std.proofs.Common.{◌≡◌, ℕ, ◌+◌, ◌-◌, ◌%◌, ◌<◌, ◌≤◌, ltb, arith}
use Rattle.std.proofs.{lemmas.Bool.lt-ltb, lemmas.Bool.le-ltb, lemmas.Bool.cases_lt, lemmas.Bool.cond-true, lemmas.Bool.cond-false, Math.Nat.mod-eq_of_lt}
use Rattle.spin_base.specs.{declared.chips.Dir.Dir, declared.routes.Out.TheVariants.Link, declared.routes.Out.TheVariants.Core, Links.dir_number, Links.dir_at, Outputs.out_number, Outputs.out_of}
use Rattle.spin_base.specs.Outputs.{IsOutput}

-- the link of a number has that number
pub dir_number-dir_at : (n : ℕ) → n < 6 → dir_number (dir_at n) ≡ n
dir_number-dir_at n h = grind arith

pub dir_at-dir_number : (d : Dir) → dir_at (dir_number d) ≡ d
dir_at-dir_number d = grind arith

-- a spot below 18 is left by its core, one from 18 on by a link
pub out_of-core : (p : ℕ) → p < 18 → out_of p ≡ Core p
out_of-core p h = cond-true (ltb p 18) (Core p) (Link (dir_at (p - 18))) (lt-ltb _ _ h)

pub out_of-device : (p : ℕ) → 18 ≤ p → out_of p ≡ Link (dir_at (p - 18))
out_of-device p h = cond-false (ltb p 18) (Core p) (Link (dir_at (p - 18))) (le-ltb _ _ h)

-- outputs by one link, or by one core, are one, and no link is a core
pub same_link : (a b : Dir) → Link a ≡ Link b → a ≡ b
same_link a b e = cc

same_core : {p q : ℕ} → Core p ≡ Core q → p ≡ q
same_core e = cc

link_is_no_core : {d : Dir} {p : ℕ} → Link d ≡ Core p → ⊥
link_is_no_core e = cc

-- the output that leads to a spot has a bit
pub out_of-has_bit : (p : ℕ) → IsOutput (out_of p)
out_of-has_bit p = grind (arith, cases_lt p 18, out_of-core, out_of-device)

-- cores come after the links, and the devices on links come round to them
pub out_number-out_of : (p : ℕ) → p < 24 → out_number (out_of p) ≡ (p + 6) % 24
out_number-out_of p h = grind (arith, cases_lt p 18, out_of-core, mod-eq_of_lt, out_of-device, dir_number-dir_at)

-- an output that is a core leads to the spot of its number, one that is a link to that of 18 and the link's number
pub spot_of_core : (p q : ℕ) → out_of p ≡ Core q → (p ≡ q) × (p < 18)
spot_of_core p q e = grind (arith, cases_lt p 18, same_core, out_of-core, link_is_no_core, out_of-device)

pub spot_of_link : (p : ℕ) (d : Dir) → p < 24 → out_of p ≡ Link d → p ≡ 18 + dir_number d
spot_of_link p d h e = grind (arith, cases_lt p 18, link_is_no_core, out_of-core, same_link, out_of-device, dir_number-dir_at)

-- spots of one chip with one output are one spot
pub same_number : (p q : ℕ) → p < 24 → q < 24 → out_of p ≡ out_of q → p ≡ q
same_number p q h k e = grind (arith, out_number-out_of p h, out_number-out_of q k)
