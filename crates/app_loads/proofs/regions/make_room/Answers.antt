use Rattle.app_loads.proofs.{LeavingLists.counted_next, LeavingLists.few_counted, LeavingLists.next_here, Serving.region_in, RegionLaws.frees_still, RegionLaws.region_there, RegionLaws.room_more}
use Rattle.app_loads.proofs.regions.make_room.Goals.{After-index-count}
use Rattle.app_loads.proofs.Common.{Range, ap, arith, length-set, ◌+◌, ◌∙◌, ◌≤◌}
use Rattle.app_loads.proofs.regions.make_room.Goals as goal

abbrev none : Range
none = record { region = 0; place = 0; size = 0 }

pub loop-range-preserved : goal.loop-range-preserved
loop-range-preserved c =
    let ranges = c.args.ranges.now in
    let counts = c.loop-range.counts.items in
    let counted = c.loop-range.invariant.counted in
    let in_counts = region_there ranges none c.loop-range-test.true counts c.requires.there c.loop-range.invariant.counts in
    let in_regions = region_there ranges none c.loop-range-test.true c.loop-range.regions c.requires.there c.loop-range.invariant.long in
    let here = next_here region_in ranges none c.loop-range-test.true counts c.index-count.result.now in_counts counted in
    record {
      room = room_more ranges none c.loop-range-test.true c.loop-range.regions c.index-regions-at.result in_regions c.reserve.new.self c.reserve.ensures.same
          c.loop-range.invariant.room (omega (arith, here, c.index-count.ensures, c.in_ok-reserve.ensures.room));
      same = frees_still ranges none c.loop-range-test.true c.loop-range.regions c.index-regions-at.result in_regions c.reserve.new.self c.reserve.ensures.same ∙ c.loop-range.invariant.same;
      long = length-set c.loop-range.regions _ _ ∙ c.loop-range.invariant.long;
      counts = length-set counts _ _ ∙ c.loop-range.invariant.counts;
      counted = counted_next region_in ranges none c.loop-range-test.true counts c.index-count.result.now in_counts counted _ (ap (λ n. n + 1) c.index-count.ensures);
    }

-- a region has few ranges
few : (c : After-index-count) → c.index-count.result.now ≤ 262144
few c =
    let in_counts = region_there c.args.ranges.now none c.loop-range-test.true c.loop-range.counts.items c.requires.there c.loop-range.invariant.counts in
    let held = few_counted region_in c.args.ranges.now none c.loop-range-test.true c.loop-range.counts.items c.index-count.result.now in_counts c.loop-range.invariant.counted in
    omega (arith, held, c.index-count.ensures, c.loop-range-test.true, c.requires.few)

pub overflow_add-count : goal.overflow_add-count
overflow_add-count c = omega (arith, few (goal.at.overflow_add-count c).After-index-count)

pub overflow_add-count-in-loop-range : goal.overflow_add-count-in-loop-range
overflow_add-count-in-loop-range c = omega (arith, few (goal.at.overflow_add-count-in-loop-range c).After-index-count)
