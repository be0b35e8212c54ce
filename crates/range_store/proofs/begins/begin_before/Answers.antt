use Rattle.range_store.proofs.Common.{Hole, IsPartitionPoint-from_clause, IsPartitionedBy-ltb, arith, get_or_from_slice_get, ltb, ltb-false, ltb-true, rules, slice_get_within}
use Rattle.range_store.proofs.Beginnings.{in_order}
use Rattle.range_store.proofs.begins.begin_before.Goals as goal

pub returns : goal.returns
returns c =
    let hs = c.args.holes.list.now in
    let parted = IsPartitionedBy-ltb (λ (h : Hole). h.place) hs c.args.place (in_order 0 4294967296 hs c.args.holes.runs) in
    let point = IsPartitionPoint-from_clause (λ (h : Hole). ltb h.place c.args.place) _ _ c.partition_point.ensures.partitioned parted (λ a r q k. search rules) in
    record {
      within = c.partition_point.ensures.bound;
      before = λ k h less got. (let e = get_or_from_slice_get hs k h h got in let t = point.0 k h (omega arith) less in ltb-true _ _ (rw (← e) t));
      after = λ k h from got. (let e = get_or_from_slice_get hs k h h got in let t = point.1 k h from (slice_get_within hs k h got) in ltb-false _ _ (rw (← e) t));
    }
