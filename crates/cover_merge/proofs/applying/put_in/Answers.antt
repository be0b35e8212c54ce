-- Each turn moves the rows up to the next place down.
use Rattle.cover_merge.proofs.Common.{arith, get_or, refl, ◌+◌}
use Rattle.cover_merge.proofs.ReplaceLemmas.{all_closed, many, none_closed, one_closed, room, starts}
use Rattle.cover_merge.proofs.applying.put_in.Goals as goal

pub loop-i-init : goal.loop-i-init
loop-i-init c = none_closed c.args.gaps.places.now c.args.gaps.place c.args.gaps.ascending c.args.gaps.before c.args.merged c.args.rows.now.items c.requires

pub move_down-requires-clause-by : goal.move_down-requires-clause-by
move_down-requires-clause-by c = omega (
  arith,
  (starts c.args.gaps.places.now c.args.gaps.place c.args.gaps.ascending c.args.gaps.before c.args.merged c.args.rows.now.items c.requires c.loop-i.i c.loop-i-test.true c.loop-i.rows.items c.loop-i.rows.items c.loop-i.invariant
      (get_or c.args.gaps.places.now c.loop-i.i 0 + 1) c.next_place-to.result refl (c.next_place-to.ensures (omega (arith, c.loop-i-test.true)))).0,
)

pub move_down-requires-clause-inside : goal.move_down-requires-clause-inside
move_down-requires-clause-inside c =
    (starts c.args.gaps.places.now c.args.gaps.place c.args.gaps.ascending c.args.gaps.before c.args.merged c.args.rows.now.items c.requires c.loop-i.i c.loop-i-test.true c.loop-i.rows.items c.loop-i.rows.items c.loop-i.invariant
    (get_or c.args.gaps.places.now c.loop-i.i 0 + 1) c.next_place-to.result refl (c.next_place-to.ensures (omega (arith, c.loop-i-test.true)))).2

pub loop-i-preserved : goal.loop-i-preserved
loop-i-preserved c =
    one_closed c.args.gaps.places.now c.args.gaps.place c.args.gaps.ascending c.args.gaps.before c.args.merged c.args.rows.now.items c.requires c.loop-i.i c.loop-i-test.true c.loop-i.rows.items c.move_down.new.rows.items c.loop-i.invariant
    (get_or c.args.gaps.places.now c.loop-i.i 0 + 1) c.next_place-to.result refl (c.next_place-to.ensures (omega (arith, c.loop-i-test.true)))
    (record { one_each = c.move_down.ensures.one_each; front = c.move_down.ensures.front; rest = c.move_down.ensures.rest })

pub overflow_sub-place : goal.overflow_sub-place
overflow_sub-place c = (room c.args.gaps.places.now c.args.gaps.place c.args.gaps.ascending c.args.gaps.before c.args.merged c.args.rows.now.items c.requires c.args.gaps.some).0

pub move_down-requires-2-clause-by : goal.move_down-requires-2-clause-by
move_down-requires-2-clause-by c = omega (arith, (room c.args.gaps.places.now c.args.gaps.place c.args.gaps.ascending c.args.gaps.before c.args.merged c.args.rows.now.items c.requires c.args.gaps.some).0)

pub overflow_sub-len : goal.overflow_sub-len
overflow_sub-len c = omega (arith, (room c.args.gaps.places.now c.args.gaps.place c.args.gaps.ascending c.args.gaps.before c.args.merged c.args.rows.now.items c.requires c.args.gaps.some).0, c.len-len.ensures, c.loop-i.invariant.one_each, c.requires)

pub returns : goal.returns
returns c = grind (arith, many, all_closed)
