use Rattle.link_detours.proofs.Common.{[], ap, arith, below_six, length, length-append, rules, ◌∙◌, ◌∷◌}
use Rattle.link_detours.proofs.Searching.{start, start_looking, look_past, look_at_end, weight_falls, marked_reached, dir_number_at}
use Rattle.link_detours.proofs.searches.reached_chips.Goals.{in-Some-unmarked_far+in_ok-push, in_default-unmarked_far}
use Rattle.link_detours.proofs.searches.reached_chips.Goals as goal

pub loop-from-init : goal.loop-from-init
loop-from-init c = grind (arith, start)

pub loop-link-init : goal.loop-link-init
loop-link-init c = (
  start_looking c.args.search.table.machine.now c.args.search.table.flags.now c.args.search.seeds.now c.loop-from.marks.items c.loop-from.left.items
      c.pop.new.self.items c.in-Some.from c.in-Some.ensures.items c.loop-from.invariant,
  omega arith,
)

pub invariant_of-here : goal.invariant_of-here
invariant_of-here c = record { inside = c.loop-link.invariant.0.at_inside; long = ap length c.deref.ensures.value ∙ c.loop-link.invariant.0.ongoing.long }

pub loop-link-preserved : goal.loop-link-preserved
loop-link-preserved c =
    let m = c.args.search.table.machine.now in
    let flags = c.args.search.table.flags.now in
    let seeds = c.args.search.seeds.now in
    elim c.match-unmarked_far.branch [
      | in-Some-unmarked_far+in_ok-push w ↦
          let found = rw c.deref.ensures.value at w.in-Some-unmarked_far.ensures.found in
          rw (w.marks-is, w.left-is, w.in_ok-push.ensures.items, w.index.ensures.value) (
            look_at_end m flags seeds c.loop-link.marks.items c.loop-link.left.items c.in-Some.from w.in-Some-unmarked_far.to c.loop-link.link-index _
                (dir_number_at c.loop-link.link-index _ c.loop-link-test.true) found.0 found.1 c.loop-link.invariant.0,
            weight_falls m flags seeds c.loop-link.marks.items c.loop-link.left.items w.in-Some-unmarked_far.to _ c.loop-link.invariant.0.ongoing.long
                w.in-Some-unmarked_far.ensures.inside found.2 c.loop-link.invariant.1,
          )
      | in_default-unmarked_far w ↦
          rw (w.marks-is, w.left-is) (
            look_past m flags seeds c.loop-link.marks.items c.loop-link.left.items c.in-Some.from c.loop-link.link-index _
                (dir_number_at c.loop-link.link-index _ c.loop-link-test.true) (rw c.deref.ensures.value at w.in_default-unmarked_far.ensures.none) c.loop-link.invariant.0,
            c.loop-link.invariant.1,
          )
    ]

pub loop-from-preserved : goal.loop-from-preserved
loop-from-preserved c = search (rules, below_six)

pub loop-from-smaller : goal.loop-from-smaller
loop-from-smaller c = omega (arith, c.loop-link.invariant.1, ap length c.in-Some.ensures.items, length-append c.pop.new.self.items (c.in-Some.from ∷ []))

pub returns-clause-reached : goal.returns-clause-reached
returns-clause-reached c =
    marked_reached c.args.search.table.machine.now c.args.search.table.flags.now c.args.search.seeds.now c.loop-from.marks.items c.loop-from.left.items
    (search rules) c.args.search.inside c.loop-from.invariant
