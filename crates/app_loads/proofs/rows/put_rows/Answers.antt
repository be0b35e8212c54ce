use Rattle.app_loads.proofs.Common.{ap, arith, entry_of, refl, set, slice_get_read, slice_set, true, ◌∙◌}
use Rattle.app_loads.proofs.Copying.{filled_next, row_next}
use Rattle.app_loads.proofs.rows.put_rows.Goals as goal

pub loop-at-preserved : goal.loop-at-preserved
loop-at-preserved c = record {
  entries = filled_next c.args.first c.loop-at.at _ c.args.table.now c.loop-at.roomy.entries c.set.new.self.entries _ c.loop-at.invariant.entries
      (let r = c.requires.has in omega (arith, r.size, r.fits, c.loop-at-test.true))
      (row_next c.args.marks.now c.args.first c.loop-at.at c.index-marks-at.result
      (slice_get_read c.args.marks.now _ c.loop-at.at c.index-marks-at.result refl c.loop-at-test.true c.index-marks-at.is))
      (c.set.ensures.one ∙ ap (slice_set c.loop-at.roomy.entries _) c.entry_of.ensures);
  room = c.set.ensures.room ∙ c.loop-at.invariant.room;
}
