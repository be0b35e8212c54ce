-- The row that was read is the first with an alias that the block meets.
use Rattle.cover_merge.proofs.Common.{[], get_or, merge_rows, slice_get-get_or}
use Rattle.cover_merge.proofs.meeting.first_met_from.Goals as goal

pub returns-in-Some : goal.returns-in-Some
returns-in-Some c = record {
  at = c.loop-r.r;
  row = get_or c.args.table.rows.now c.loop-r.r (merge_rows []);
  from = c.loop-r.auto.r;
  found = slice_get-get_or c.args.table.rows.now c.loop-r.r (merge_rows []) c.loop-r-test.true;
  first = c.in-Some.ensures (merge_rows []);
  before = c.loop-r.invariant;
}
