use Rattle.std.proofs.Common.{◌≡◌, ◌-◌, ◌≤◌, length, vec_capacity}
use Rattle.tcam_find.specs.Memory.{AreLengthened}
use Rattle.tcam_find.proofs.held.lengthen.Given as goal

-- the entries are the same
abbrev pub invariant-loop-groups : goal.invariant-loop-groups
invariant-loop-groups l = record {
  same : l.count ≤ 128 → AreLengthened l.fn.groups.items l.groups.items;
  room : vec_capacity l.groups ≡ vec_capacity l.fn.groups;
}

abbrev pub decreases-loop-groups : goal.decreases-loop-groups
decreases-loop-groups l = l.count - length l.groups.items
