-- The tests of equality say what they are called for.
use Rattle.machine_desc.proofs.Common.{Chip, Dir, Edge, and_from, and_parts, ap, arith, chip_eq, chip_eq_same, chip_eq_true, dir_eq_same, dir_eq_true, edge_eq, false, refl, subst, sym, true, ◌∙◌, ◌≡◌}
pub use Rattle.spin_base.proofs.Equality.{same_chip, same_spot}
pub use Rattle.spin_base.proofs.Outputs.{dir_number_injective as same_dir, dir_number_below as below_six}

pub same_edge : (a b : Edge) → a.chip ≡ b.chip → a.dir ≡ b.dir → a ≡ b
same_edge a b p q = grind arith

pub edge_eq-true : (a b : Edge) → edge_eq a b ≡ true → a ≡ b
edge_eq-true a b h = grind (arith, and_parts, same_edge, chip_eq_true, dir_eq_true)

pub edge_eq_self : (a : Edge) → edge_eq a a ≡ true
edge_eq_self a = and_from _ _ (chip_eq_same a.chip) (dir_eq_same a.dir)

pub chip_eq-from_same : (a b : Chip) → a ≡ b → chip_eq a b ≡ true
chip_eq-from_same a b e = subst (λ (c : Chip). chip_eq a c ≡ true) e (chip_eq_same a)

pub chip_eq_sym : (a b : Chip) → chip_eq a b ≡ chip_eq b a
chip_eq_sym a b = grind (arith, chip_eq-from_same, chip_eq_true)
