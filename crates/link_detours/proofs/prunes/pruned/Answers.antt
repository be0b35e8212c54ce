use Rattle.link_detours.proofs.Common.{All, All-filter, IsInside, arith, filter, filter_map, is_marked, other_end_of, rules}
use Rattle.link_detours.proofs.{Turning.turned_inside, Turning.left_leads, prunes.pruned.Goals.After-deref-4}
use Rattle.link_detours.proofs.prunes.pruned.Goals as goal

pub invariant_of-links : goal.invariant_of-links
invariant_of-links c = grind (arith, turned_inside c.args.whole.edges.machine.now c.args.whole.edges.list.now c.args.whole.edges.inside)

-- the edges that were reached begin inside the grid
wanted_inside : (c : After-deref-4) → All (λ e. IsInside c.args.whole.edges.machine.now e.chip)
    (filter (λ e. is_marked c.args.whole.edges.machine.now c.in_ok-marks.marks.items e.chip) (filter_map (other_end_of c.args.whole.edges.machine.now) c.args.whole.edges.list.now))
wanted_inside c = search (rules, All-filter, turned_inside)

pub invariant_of-found : goal.invariant_of-found
invariant_of-found c = grind (arith, wanted_inside (goal.at.invariant_of-found c).After-deref-4)

pub invariant_of-kept : goal.invariant_of-kept
invariant_of-kept c = grind (arith, wanted_inside (goal.at.invariant_of-kept c).After-deref-4, turned_inside)

pub returns-clause-left : goal.returns-clause-left
returns-clause-left c = λ e.
    let leads = left_leads c.args.whole.edges.machine.now c.args.whole.edges.list.now c.args.whole.edges.inside c.in_ok-table.table.items c.args.whole.targets.now
    c.in_ok-marks.marks.items
    (rw (c.deref.ensures.value, c.in_ok-turned.ensures) at c.in_ok-table.ensures.flags)
    (rw c.deref-2.ensures.value at c.in_ok-marks.ensures.reached) e in
    let same = rw (c.deref-5.ensures.value, c.in_ok-left.ensures, c.deref-4.ensures.value, c.in_ok-wanted.ensures, c.deref-3.ensures.value, c.deref.ensures.value, c.in_ok-turned.ensures)
    at (c.in_ok-edges.ensures.same e) in (
      λ has. leads.0 (same.0 has),
      λ known. same.1 (leads.1 known),
    )
