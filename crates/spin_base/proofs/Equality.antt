-- The tests of equality say what equality says.
use Rattle.std.proofs.Common.{◌≡◌, ℕ, true, ◌==◌, refl, arith}
use Rattle.std.proofs.lemmas.Bool.{and_parts, eq-eqb, eqb-true}
use Rattle.spin_base.specs.declared.{chips.Chip.Chip, chips.Dir.Dir, chips.Port.Port, chips.Port.TheVariants.Local, chips.Spot.Spot, routes.Out.Out}
use Rattle.spin_base.specs.{Links.dir_number, Links.port_number, Outputs.out_number, Equality.chip_eq, Equality.spot_eq, Equality.dir_eq, Equality.port_eq, Equality.out_eq}
use Rattle.spin_base.specs.declared.chips.Port.TheVariants.{Link as FromLink}
use Rattle.spin_base.proofs.Outputs.{dir_number_injective, dir_number_below, out_number_injective}

pub nat_eq_same : (m : ℕ) → (m == m) ≡ true
nat_eq_same m = eq-eqb m m refl

pub chip_eq_same : (a : Chip) → chip_eq a a ≡ true
chip_eq_same a = rw (nat_eq_same a.x, nat_eq_same a.y) refl

pub same_chip : (a b : Chip) → a.x ≡ b.x → a.y ≡ b.y → a ≡ b
same_chip a b p q = grind arith

pub same_spot : (a b : Spot) → a.chip ≡ b.chip → a.core ≡ b.core → a ≡ b
same_spot a b p q = grind arith

pub chip_eq_true : (a b : Chip) → chip_eq a b ≡ true → a ≡ b
chip_eq_true a b e = same_chip a b (eqb-true a.x b.x (and_parts _ _ e).0) (eqb-true a.y b.y (and_parts (a.x == b.x) _ e).1)

pub spot_eq_same : (a : Spot) → spot_eq a a ≡ true
spot_eq_same a = rw (nat_eq_same a.chip.x, nat_eq_same a.chip.y, nat_eq_same a.core) refl

pub spot_eq_true : (a b : Spot) → spot_eq a b ≡ true → a ≡ b
spot_eq_true a b e = grind (arith, same_spot, chip_eq_true, eqb-true, and_parts)

pub dir_eq_same : (a : Dir) → dir_eq a a ≡ true
dir_eq_same a = nat_eq_same (dir_number a)

pub dir_eq_true : (a b : Dir) → dir_eq a b ≡ true → a ≡ b
dir_eq_true a b e = dir_number_injective a b (eqb-true _ _ e)

-- ports of one number are one port
pub port_number_injective : (a b : Port) → port_number a ≡ port_number b → a ≡ b
port_number_injective a b e = grind (arith, dir_number_injective, dir_number_below)

-- no link is the chip's own cores
pub link_is_not_local : (d : Dir) → FromLink d ≡ Local → ⊥
link_is_not_local d e = cc

pub port_eq_same : (a : Port) → port_eq a a ≡ true
port_eq_same a = nat_eq_same (port_number a)

pub port_eq_true : (a b : Port) → port_eq a b ≡ true → a ≡ b
port_eq_true a b e = port_number_injective a b (eqb-true _ _ e)

pub out_eq_same : (a : Out) → out_eq a a ≡ true
out_eq_same a = nat_eq_same (out_number a)

pub out_eq_true : (a b : Out) → out_eq a b ≡ true → a ≡ b
out_eq_true a b e = out_number_injective a b (eqb-true _ _ e)
