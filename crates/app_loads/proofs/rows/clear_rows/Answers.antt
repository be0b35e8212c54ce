use Rattle.app_loads.proofs.Common.{arith, ◌≡◌, All, Description, IsRangeWithin, List, Range, ap, chip_count, get_or, length, region_size, subst, ℕ, ◌+◌, ◌<◌, ◌∙◌, ◌≤◌}
use Rattle.app_loads.proofs.{Copying.after_more, Copying.after_skip, Copying.all_filled, Copying.its_long, Copying.long_at, Settling.rows_size}
use Rattle.app_loads.proofs.rows.clear_rows.Goals as goal

-- a range of entries lies within its table, which is there
range_fits : {m : Description} (ranges : List Range) {i at : ℕ} (d : Range) → All (IsRangeWithin m (1 + (chip_count m + chip_count m))) ranges → i < length ranges →
    (get_or ranges i d).region ≡ 1 + (chip_count m + at) → (at < chip_count m) × ((get_or ranges i d).place + (get_or ranges i d).size ≤ 1024)
range_fits {m} ranges {i} {at} d within below region = (
  omega (arith, (within i d below).there, region),
  subst (λ r. (get_or ranges i d).place + (get_or ranges i d).size ≤ r) (ap (region_size m) region ∙ rows_size m at) (within i d below).within,
)

pub bounds-tables-at : goal.bounds-tables-at
bounds-tables-at c = omega (arith, range_fits c.args.ranges.now _ c.requires.within c.loop-range-test.true c.in-Some.ensures.some, c.requires.tables_long, c.loop-range.invariant.all)

pub clear_entries-requires : goal.clear_entries-requires
clear_entries-requires c =
    let fits = range_fits c.args.ranges.now _ c.requires.within c.loop-range-test.true c.in-Some.ensures.some in
    record {
      size = its_long c.index-tables-at.result c.loop-range.invariant (omega (arith, fits, c.requires.tables_long, c.loop-range.invariant.all))
          (long_at c.args.machine.now c.args.tables.now c.requires.each_long c.in-Some.at fits.0);
      fits = fits.1;
    }

pub loop-range-preserved : goal.loop-range-preserved
loop-range-preserved c = elim c.match-table_of.branch [
  | goal.in-Some w ↦ rw w.tables-is (after_more c.args.ranges.now _ c.loop-range-test.true c.loop-range.invariant w.index-tables-at.result w.clear_entries.new.table w.in-Some.ensures.some
      (omega (arith, range_fits c.args.ranges.now _ c.requires.within c.loop-range-test.true w.in-Some.ensures.some, c.requires.tables_long, c.loop-range.invariant.all)) w.clear_entries.ensures)
  | goal.in_default w ↦ rw w.tables-is (after_skip c.args.ranges.now _ c.loop-range-test.true c.loop-range.invariant w.in_default.ensures.none)
]

pub returns : goal.returns
returns c = all_filled c.args.ranges.now c.loop-range.range-index c.loop-range-test.false c.requires.apart c.requires.each_long c.loop-range.invariant
