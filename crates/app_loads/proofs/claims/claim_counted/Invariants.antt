use Rattle.app_loads.proofs.claims.claim_counted.Given as goal
use Rattle.app_loads.proofs.Common.{entries_claim, gathered, take, ◌++◌, ◌≡◌}

abbrev pub invariant-loop-index : goal.invariant-loop-index
invariant-loop-index l = l.claims.items ≡ l.fn.claims.items ++ gathered (entries_claim l.rows.machine.now) 0 (take l.index l.list)
