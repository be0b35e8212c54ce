use Rattle.net_tables.proofs.Common.{All-drop, All-take, IsRouted, [], ap, arith, drop, length, length-replicate, refl, take, ◌++◌, ◌-◌, ◌∙◌, ◌≤◌}
use Rattle.net_tables.proofs.{Parting.front_more, Parting.turning_more, Parting.turning_none, Whole.all_routed}
use Rattle.net_tables.proofs.turning.turning_lists.Goals as goal

pub loop-done-init : goal.loop-done-init
loop-done-init c = record {
  within = omega arith;
  long = ap length c.in_ok-kept.ensures ∙ (length-replicate _ _ ∙ c.chips.ensures.total);
  front = [];
  whole = refl;
  turning = turning_none c.args.machine.now c.chips.result c.in_ok-kept.kept.items c.in_ok-kept.ensures;
}

pub invariant_of-some : goal.invariant_of-some
invariant_of-some c = record {
  routed = ∣ All-take (IsRouted c.args.machine.now) (c.min-end.result - c.loop-done.done) (drop c.loop-done.done c.as_slice-plans.result.now)
      (All-drop (IsRouted c.args.machine.now) c.loop-done.done c.as_slice-plans.result.now (rw c.as_slice-plans.ensures (all_routed c.args.machine.now c.args.nets.now c.requires))) ∣₁;
}

pub loop-done-preserved : goal.loop-done-preserved
loop-done-preserved c =
    let up : c.loop-done.done ≤ c.min-end.result = omega (arith, c.min-end.ensures, c.loop-done-test.true) in
    record {
      within = omega (arith, c.min-end.ensures);
      long = c.in_ok-add_turning.ensures.long ∙ c.loop-done.invariant.long;
      front = c.loop-done.invariant.front ++ take (c.min-end.result - c.loop-done.done) (drop c.loop-done.done c.as_slice-plans.result.now);
      whole = front_more c.as_slice-plans.result.now c.loop-done.invariant.front c.loop-done.done c.min-end.result up c.loop-done.invariant.whole;
      turning = turning_more c.args.machine.now c.loop-done.invariant.front (take (c.min-end.result - c.loop-done.done) (drop c.loop-done.done c.as_slice-plans.result.now))
          c.in_ok-lists.lists.items c.loop-done.kept.items c.add_turning.new.kept.items c.in_ok-lists.ensures c.loop-done.invariant.long
          (rw c.deref.ensures.value at c.in_ok-add_turning.ensures.each) c.loop-done.invariant.turning;
    }
