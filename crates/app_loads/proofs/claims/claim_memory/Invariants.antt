use Rattle.app_loads.proofs.Common.{gathered, memory_claim, take, zip, ◌++◌, ◌≡◌}
use Rattle.app_loads.proofs.claims.claim_memory.Given as goal

abbrev pub invariant-loop-vertex : goal.invariant-loop-vertex
invariant-loop-vertex l = l.claims.items ≡ l.fn.claims.items ++ gathered memory_claim 0 (take l.vertex (zip l.needs.spots.now l.needs.bytes.now))
