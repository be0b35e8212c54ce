use Rattle.app_loads.proofs.Common.{AppNet, gathered, key_claim, take, ◌++◌, ◌≡◌}
use Rattle.app_loads.proofs.claims.claim_keys.Given as goal

abbrev pub invariant-loop-net : goal.invariant-loop-net
invariant-loop-net l = l.claims.items ≡ l.fn.claims.items ++ gathered (λ j (net : AppNet). key_claim j net.keys net.fixed) 0 (take l.net l.list)
