-- Sorted bits, and what the gap tells.
use Rattle.table_rules.proofs.Common.{All, Contains, IsNonDecreasing, IsNonDecreasingBy-from_sort, arith, subst, sym, ◌-◌, ◌≡◌}
use Rattle.table_rules.proofs.FreeRoutes.{has_all, is_free}
use Rattle.table_rules.proofs.freeing.free_route.Goals as goal

pub full_from-full-requires : goal.full_from-full-requires
full_from-full-requires c = subst IsNonDecreasing (sym c.as_slice.ensures.value) (IsNonDecreasingBy-from_sort (λ x. x) _ c.sort_unstable.ensures.sorted)

pub returns-then-full-eq0 : goal.returns-then-full-eq0
returns-then-full-eq0 c =
    has_all c.args.given.now c.in_ok-bits.bits.items c.sort_unstable.new.self.items c.in_ok-bits.ensures c.sort_unstable.ensures.permutation c.args.routes
    (λ b from within. subst (λ l. Contains l b) c.as_slice.ensures.value (c.full_from-full.ensures.full b (omega (arith, c.if-full-eq0.true)) within))

pub returns : goal.returns
returns c =
    is_free c.args.given.now c.in_ok-bits.bits.items c.sort_unstable.new.self.items c.in_ok-bits.ensures c.sort_unstable.ensures.permutation (c.full_from-full.result - 1)
    (subst (All (λ b. b ≡ c.full_from-full.result - 1 → ⊥)) c.as_slice.ensures.value (c.full_from-full.ensures.free (omega (arith, c.if-full-eq0.false))))
