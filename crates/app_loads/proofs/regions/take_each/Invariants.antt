use Rattle.app_loads.proofs.Common.{AreCounted, HaveServed, length, ◌≡◌, ◌≤◌}
use Rattle.app_loads.proofs.Serving.{region_in}
use Rattle.app_loads.proofs.regions.take_each.Given as goal

-- the claims so far have their ranges, which are counted by their regions
abbrev pub invariant-loop-claim : goal.invariant-loop-claim
invariant-loop-claim l = record {
  each_one : length l.ranges.items ≡ l.claim-index;
  room : length l.claims ≤ l.ranges.cap;
  served : HaveServed l.machine l.claims l.fn.regions l.ranges.items l.regions;
  counts : length l.counts ≡ length l.fn.regions;
  counted : AreCounted region_in l.ranges.items l.counts;
}
