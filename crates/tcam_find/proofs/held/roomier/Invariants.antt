use Rattle.std.proofs.Common.{◌≡◌, take, vec_capacity}
use Rattle.tcam_find.proofs.held.roomier.Given as goal

-- so many groups stand in the other list
abbrev pub invariant-loop-group : goal.invariant-loop-group
invariant-loop-group l = record {
  same : l.spare.items ≡ take l.group-index l.fn.groups.items;
  room : vec_capacity l.spare ≡ vec_capacity l.fn.spare;
}
