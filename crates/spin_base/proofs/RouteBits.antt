-- A route is its bits, and a bit is 0 or 1.
use Rattle.std.proofs.Common.{◌≡◌, ℕ, ◌^◌, ◌<◌, ap, subst, arith}
use Rattle.std.proofs.Props.{props}
use Rattle.spin_base.specs.declared.routes.Route.{Route}

-- a route is its bits
pub same_route : (a b : Route) → a.bits ≡ b.bits → a ≡ b
same_route a b e = subst (λ n. (w : n < 2 ^ 24) → ◌≡◌ {A = Route} a (record { bits = n; within = w })) e (λ w. ap (λ (x : a.bits < 2 ^ 24). let r : Route = record { bits = a.bits; within = x } in r) (small a.bits a.within w)) b.within
  where
    small : (n : ℕ) → IsProp (n < 2 ^ 24)
    small n = hlevel props

-- what is less than 2 and not 1 is 0
pub zero_of : (n : ℕ) → n < 2 → (n ≡ 1 → ⊥) → n ≡ 0
zero_of n low not_one = grind arith
