use Rattle.app_loads.proofs.Common.{AreCounted, HaveRoom, frees, length, take, ◌≡◌}
use Rattle.app_loads.proofs.Serving.{region_in}
use Rattle.app_loads.proofs.regions.make_room.Given as goal

-- the ranges so far are counted by their regions, which have room for them
abbrev pub invariant-loop-range : goal.invariant-loop-range
invariant-loop-range l = record {
  room : HaveRoom (take l.range-index l.ranges) l.regions;
  same : frees l.regions ≡ frees l.fn.regions;
  long : length l.regions ≡ length l.fn.regions;
  counts : length l.counts.items ≡ length l.fn.regions;
  counted : AreCounted region_in (take l.range-index l.ranges) l.counts.items;
}
