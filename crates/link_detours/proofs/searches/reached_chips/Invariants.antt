use Rattle.link_detours.proofs.Common.{Contains, length, sum_by, ◌*◌, ◌+◌, ◌≤◌}
use Rattle.link_detours.proofs.Searching.{Ongoing, Looking, unmarked}
use Rattle.link_detours.proofs.searches.reached_chips.Given as goal

-- the links of the chips that are left wait
abbrev pub invariant-loop-from : goal.invariant-loop-from
invariant-loop-from l = Ongoing l.search.table.machine.now l.search.table.flags.now l.search.seeds.now l.marks.items l.left.items (λ c j. Contains l.left.items c)

-- each chip that is marked is left once
abbrev pub decreases-loop-from : goal.decreases-loop-from
decreases-loop-from l = 2 * sum_by unmarked l.marks.items + length l.left.items

-- and besides the links of the chip that was taken, from this one on
abbrev pub invariant-loop-link : goal.invariant-loop-link
invariant-loop-link l =
    Looking l.search.table.machine.now l.search.table.flags.now l.search.seeds.now l.marks.items l.left.items l.from l.link-index
    × (2 * sum_by unmarked l.marks.items + length l.left.items ≤ 2 * sum_by unmarked l.initial.marks.items + length l.initial.left.items)
