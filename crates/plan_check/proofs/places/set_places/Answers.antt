use Rattle.plan_check.proofs.Common.{ap, arith, get_or, length, rules, ◌*◌}
use Rattle.plan_check.proofs.TablePlaces.{tells_none, table_read}
use Rattle.plan_check.proofs.places.set_places.Goals as goal

pub loop-at-init : goal.loop-at-init
loop-at-init c =
    let v = c.args.grid.image.now in
    tells_none v.height (v.width * v.height) (length c.as_slice-tables.result.now) v.chips c.args.places.now c.fill.new.self
    c.requires (ap length c.as_slice-tables.ensures) (c.fill.ensures.after (search rules))

pub loop-at-preserved : goal.loop-at-preserved
loop-at-preserved c = grind (arith, table_read, get_or)
