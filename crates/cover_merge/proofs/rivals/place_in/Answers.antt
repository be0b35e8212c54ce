-- Rows of at most the generality stand before the others.
use Rattle.cover_merge.proofs.Common.{IsPartitionPoint-from_clause, Row, arith, cases_lt, generality, nat_le, nat_tests, rules}
use Rattle.cover_merge.proofs.RivalLemmas.{place_found}
use Rattle.cover_merge.proofs.rivals.place_in.Goals as goal

pub returns-clause-value : goal.returns-clause-value
returns-clause-value c =
    let rows = c.args.table.rows.now in
    let g = c.args.general in
    let point = IsPartitionPoint-from_clause (λ (r : Row). nat_le (generality r.block) g) rows _ c.partition_point.ensures.partitioned
    (λ i j d le within passes. grind (arith, nat_tests, cases_lt i j, c.args.table.ordered i j d)) (λ a r q k. search rules) in
    place_found rows g c.partition_point.result c.args.table.ordered c.partition_point.ensures.bound
    (λ k d less. grind (arith, nat_tests, point.0 k d (omega arith) less)) (λ k d from within. grind (arith, nat_tests, point.1 k d from within))
