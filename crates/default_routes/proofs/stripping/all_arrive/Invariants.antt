-- Those passed arrive by the link.
use Rattle.default_routes.proofs.Common.{Alias, Link, get_or, ℕ, ◌<◌, ◌≡◌}
use Rattle.default_routes.proofs.stripping.all_arrive.Given as goal

abbrev pub invariant-loop-alias : goal.invariant-loop-alias
invariant-loop-alias l = (k : ℕ) (d : Alias) → k < l.alias-index → (get_or l.aliases k d).port ≡ Link l.arrival
