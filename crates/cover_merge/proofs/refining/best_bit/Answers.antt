-- One place more, and at the end the greatest count.
use Rattle.cover_merge.proofs.Common.{List, get_or-replicate, length, refl, replicate, rules, ℕ, ◌<◌, ◌^◌}
use Rattle.cover_merge.proofs.BitCounts.{kept_more, none_counted, room_for}
use Rattle.cover_merge.proofs.refining.best_bit.Goals as goal

pub loop-s-init : goal.loop-s-init
loop-s-init c = let zeros : List ℕ = replicate 32 0 in none_counted zeros c.args.rows.now c.args.merged c.args.met (λ j low. get_or-replicate 32 j 0 0 low)

pub count_bits-requires : goal.count_bits-requires
count_bits-requires c = let short : length c.args.places.now < 2 ^ 64 = search rules in room_for c.args.rows.now c.args.places.now c.args.merged c.args.met c.loop-s.s-index c.loop-s-test.true c.loop-s.counts c.loop-s.invariant short

pub loop-s-preserved : goal.loop-s-preserved
loop-s-preserved c =
    kept_more c.args.rows.now c.args.places.now c.args.merged c.args.met c.loop-s.s-index c.loop-s-test.true c.loop-s.counts c.loop-s.invariant
    c.open_bits-free.result c.keeping_bits.result _ refl c.open_bits-free.ensures c.keeping_bits.ensures c.count_bits.new.counts c.count_bits.ensures
