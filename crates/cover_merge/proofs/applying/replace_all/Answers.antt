-- Each turn moves the items up to the next place down.
use Rattle.cover_merge.proofs.Common.{arith, get_or, length, length-set, refl, ◌+◌, ◌-◌, ◌≡◌, ◌≤◌}
use Rattle.cover_merge.proofs.ReplaceLemmas.{all_closed, many, copied_down, none_closed, one_closed, room, starts}
use Rattle.cover_merge.proofs.applying.replace_all.Goals as goal

pub loop-i-init : goal.loop-i-init
loop-i-init g c = none_closed c.args.gaps.places.now c.args.gaps.place c.args.gaps.ascending c.args.gaps.before c.args.item c.args.items.now.items c.requires

pub overflow_sub-from-in-loop-i : goal.overflow_sub-from-in-loop-i
overflow_sub-from-in-loop-i g c =
    (starts c.args.gaps.places.now c.args.gaps.place c.args.gaps.ascending c.args.gaps.before c.args.item c.args.items.now.items c.requires c.loop-i.i c.loop-i-test.true c.loop-i.items.items c.loop-i.items.items c.loop-i.invariant
    (get_or c.args.gaps.places.now c.loop-i.i 0 + 1) c.next_place-to.result refl (c.next_place-to.ensures (omega (arith, c.loop-i-test.true)))).0

pub copy_within-requires-clause-in_bounds : goal.copy_within-requires-clause-in_bounds
copy_within-requires-clause-in_bounds g c = omega (
  arith,
  (starts c.args.gaps.places.now c.args.gaps.place c.args.gaps.ascending c.args.gaps.before c.args.item c.args.items.now.items c.requires c.loop-i.i c.loop-i-test.true c.loop-i.items.items c.loop-i.items.items c.loop-i.invariant
      (get_or c.args.gaps.places.now c.loop-i.i 0 + 1) c.next_place-to.result refl (c.next_place-to.ensures (omega (arith, c.loop-i-test.true)))).2,
)

pub copy_within-requires-clause-dest_in_bounds : goal.copy_within-requires-clause-dest_in_bounds
copy_within-requires-clause-dest_in_bounds g c = grind (arith, get_or, starts)

pub loop-i-preserved : goal.loop-i-preserved
loop-i-preserved g c =
    let from = get_or c.args.gaps.places.now c.loop-i.i 0 + 1 in
    let at = starts c.args.gaps.places.now c.args.gaps.place c.args.gaps.ascending c.args.gaps.before c.args.item c.args.items.now.items c.requires c.loop-i.i c.loop-i-test.true c.loop-i.items.items c.loop-i.items.items c.loop-i.invariant
    from c.next_place-to.result refl (c.next_place-to.ensures (omega (arith, c.loop-i-test.true))) in
    let dest : from - 1 - c.loop-i.i ≡ from - (c.loop-i.i + 1) = omega arith in
    one_closed c.args.gaps.places.now c.args.gaps.place c.args.gaps.ascending c.args.gaps.before c.args.item c.args.items.now.items c.requires c.loop-i.i c.loop-i-test.true c.loop-i.items.items c.copy_within.new.self.items c.loop-i.invariant
    from c.next_place-to.result refl (c.next_place-to.ensures (omega (arith, c.loop-i-test.true)))
    (copied_down from c.next_place-to.result (c.loop-i.i + 1) (from - 1 - c.loop-i.i) c.loop-i.items.items c.copy_within.new.self.items (omega (arith, at.0)) at.1 at.2 dest c.copy_within.ensures.items)

pub overflow_sub-place : goal.overflow_sub-place
overflow_sub-place g c = (room c.args.gaps.places.now c.args.gaps.place c.args.gaps.ascending c.args.gaps.before c.args.item c.args.items.now.items c.requires c.args.gaps.some).0

pub overflow_sub-place-2 : goal.overflow_sub-place-2
overflow_sub-place-2 g c = omega (arith, (room c.args.gaps.places.now c.args.gaps.place c.args.gaps.ascending c.args.gaps.before c.args.item c.args.items.now.items c.requires c.args.gaps.some).0)

pub copy_within-requires-2-clause-dest_in_bounds :
    goal.copy_within-requires-2-clause-dest_in_bounds
copy_within-requires-2-clause-dest_in_bounds g c =
    let least = (room c.args.gaps.places.now c.args.gaps.place c.args.gaps.ascending c.args.gaps.before c.args.item c.args.items.now.items c.requires c.args.gaps.some).0 in
    let fits : c.args.gaps.place - (length c.args.gaps.places.now - 1) + (c.len-len.result - c.args.gaps.place) ≤ c.loop-i.items.len = omega (arith, least, c.len-len.ensures, c.loop-i.invariant.one_each, c.requires, c.args.gaps.some) in
    fits

pub overflow_sub-len : goal.overflow_sub-len
overflow_sub-len g c = omega (arith, (room c.args.gaps.places.now c.args.gaps.place c.args.gaps.ascending c.args.gaps.before c.args.item c.args.items.now.items c.requires c.args.gaps.some).0, c.len-len.ensures, c.loop-i.invariant.one_each, c.requires)

pub returns : goal.returns
returns g c = grind (arith, room, length-set, copied_down, many, all_closed)
