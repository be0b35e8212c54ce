use Rattle.app_loads.proofs.claims.counts_of.Given as goal
use Rattle.app_loads.proofs.Common.{AreCounted, chip_count, length, take, ◌≡◌}

-- those so far are counted
abbrev pub invariant-loop-index : goal.invariant-loop-index
invariant-loop-index l = record {
  long : length l.counts.items ≡ chip_count l.machine;
  each : AreCounted (λ i. i) (take l.index-index l.indices) l.counts.items;
}
