use Rattle.app_loads.proofs.Serving.{can_give, back_at, room_at, all_back}
use Rattle.app_loads.proofs.regions.give_all.Goals as goal

pub give-requires : goal.give-requires
give-requires c = can_give _ _ _ c.loop-range-test.true (c.loop-range.invariant.taken _ _ c.requires.taken.2) c.loop-range.invariant.room

pub loop-range-preserved : goal.loop-range-preserved
loop-range-preserved c = record {
  room = room_at _ _ _ c.loop-range-test.true (c.loop-range.invariant.taken _ _ c.requires.taken.2) c.loop-range.invariant.room _ c.give.ensures.spare;
  taken = λ m others taken. back_at c.args.ranges.now _ c.index-regions-range.result c.loop-range-test.true (c.loop-range.invariant.taken m others taken)
      c.give.new.self c.give.ensures.size c.give.ensures.runs c.give.ensures.free;
}

pub returns : goal.returns
returns c = record { free = λ m others taken. all_back c.args.ranges.now c.loop-range.regions c.loop-range-test.false (c.loop-range.invariant.taken m others taken).free }
