-- The rows passed have their rivals after the merge.
use Rattle.cover_merge.proofs.Common.{length, merged_block, ◌≡◌}
use Rattle.cover_merge.proofs.RivalAfter.{AreRenewed}
use Rattle.cover_merge.proofs.carrying.renew_all.Given as goal

abbrev pub invariant-loop-k : goal.invariant-loop-k
invariant-loop-k l = record {
  serials : l.rivals.serials.items ≡ l.fn.rivals.serials.items;
  one_each : length l.rivals.of.items ≡ length l.fn.rivals.of.items;
  spans : l.rivals.spans.items ≡ l.fn.rivals.spans.items;
  lists : AreRenewed l.rows l.fn.rivals.serials.items l.places (merged_block l.rows l.places) l.merged l.met l.k l.fn.rivals.of.items l.rivals.of.items;
}
