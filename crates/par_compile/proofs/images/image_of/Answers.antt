use Rattle.par_compile.proofs.Common.{arith, rules}
use Rattle.par_compile.proofs.Imaged.{same_image, image_valid, image_rows, image_more, all_read, found_at, small_place}
use Rattle.par_compile.proofs.images.image_of.Goals as goal

pub overflow_cast-i : goal.overflow_cast-i
overflow_cast-i c = grind (arith, small_place)

pub loop-i-preserved : goal.loop-i-preserved
loop-i-preserved c =
    image_more c.args.machine.now c.args.finals.now c.loop-i.i c.done-item.result c.chip_at.result c.loop-i.chips c.push_table.new.chips
    (found_at c.args.finals.now c.as_slice-done-items.result.now c.loop-i.i c.done-item.result c.as_slice-done-items.ensures c.loop-i-test.true c.done-item.is)
    c.chip_at.ensures.chip c.loop-i.invariant c.in_ok-push_table.ensures

pub returns-clause-valid : goal.returns-clause-valid
returns-clause-valid c = search (rules, image_valid, all_read)

pub returns-clause-rows : goal.returns-clause-rows
returns-clause-rows c =
    image_rows c.args.machine.now c.width.ensures.size c.args.finals.now c.requires.one_each
    (record { width = c.width.result; height = c.height.result; wrap = c.wrap.result; chips = c.loop-i.chips }) c.width.ensures.value c.height.ensures.value
    (all_read c.args.machine.now c.args.finals.now c.as_slice-done-items.result.now c.loop-i.i c.loop-i.chips c.as_slice-done-items.ensures c.loop-i-test.false c.loop-i.invariant)

pub returns-clause-image : goal.returns-clause-image
returns-clause-image c = grind (arith, same_image, all_read)
