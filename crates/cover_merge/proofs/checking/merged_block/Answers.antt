-- Each turn merges the block of one more row.
use Rattle.cover_merge.proofs.Common.{arith}
use Rattle.cover_merge.proofs.Positions.{merge_next}
use Rattle.cover_merge.proofs.checking.merged_block.Goals as goal

pub loop-k-preserved : goal.loop-k-preserved
loop-k-preserved c =
    let set = c.args.set in
    merge_next set.rows.now set.places.now c.loop-k.k c.index-rows-places-in-loop-k.result c.loop-k.merged c.merge_two-merged.result set.inside
    (omega (arith, c.loop-k.auto.k)) c.loop-k-test.true c.loop-k.invariant c.merge_two-merged.ensures
