-- That one chip comes before another has one proof at most. So a struct may keep that its image is valid.
use Rattle.std.specs.Prelude.{◌≡◌, ◌<◌}
use Rattle.std.specs.Coded.{×_prop, le_prop}
use Rattle.std.proofs.Common.{inl, inr, ap, subst}
use Rattle.std.proofs.Math.Nat.{ℕ_set, lt_irrefl}
use Rattle.spin_base.specs.declared.chips.Chip.{Chip}
use Rattle.table_load.specs.Images.{IsChipBefore}

-- a chip that comes before by x has not the same x
not_both : (a b : Chip) → a.x < b.x → a.x ≡ b.x → ⊥
not_both a b less same = lt_irrefl b.x (subst (λ x. x < b.x) same less)

pub IsChipBefore-prop : (a b : Chip) → IsProp (IsChipBefore a b)
IsChipBefore-prop a b (inl x) (inl y) = ap inl (le_prop x y)
IsChipBefore-prop a b (inl x) (inr y) = absurd (not_both a b x y.0)
IsChipBefore-prop a b (inr x) (inl y) = absurd (not_both a b y x.0)
IsChipBefore-prop a b (inr x) (inr y) = ap inr (×_prop (ℕ_set a.x b.x) le_prop x y)
