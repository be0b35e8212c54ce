use Rattle.app_loads.proofs.Common.{AppNet, fixed_claim, gathered, take, ◌++◌, ◌≡◌}
use Rattle.app_loads.proofs.claims.claim_fixed.Given as goal

abbrev pub invariant-loop-net : goal.invariant-loop-net
invariant-loop-net l = l.claims.items ≡ l.fn.claims.items ++ gathered (λ j (net : AppNet). fixed_claim j net.fixed) 0 (take l.net l.list)
