use Rattle.link_detours.proofs.Common.{IsInside, Tells-more, Tells-none, ap, arith, chip_eq, chip_eq_same, chip_eq_true, false, index_of, length, length-replicate, replicate, rules, same_index}
use Rattle.link_detours.proofs.Common.{take_all, ◌∙◌, ◌≡◌}
use Rattle.std.proofs.Math.ListN.{length-set}
use Rattle.link_detours.proofs.Tabling.{Told-contains}
use Rattle.link_detours.proofs.searches.seed_table.Goals as goal

pub loop-seed-init : goal.loop-seed-init
loop-seed-init c =
    let m = c.args.seeds.machine.now in
    let clear : c.in_ok-table.table.items ≡ replicate c.chips.result false = c.in_ok-table.ensures.items_if_clones_equal (search rules) in
    (ap length clear ∙ (length-replicate c.chips.result false ∙ c.chips.ensures.total), Tells-none (IsInside m) (index_of m) chip_eq c.chips.result c.in_ok-table.table.items c.args.seeds.list.now clear)

pub loop-seed-preserved : goal.loop-seed-preserved
loop-seed-preserved c =
    let m = c.args.seeds.machine.now in (
      length-set _ _ _ ∙ c.loop-seed.invariant.0,
      Tells-more (IsInside m) (index_of m) chip_eq chip_eq_true chip_eq_same (same_index m) c.loop-seed.table.items c.args.seeds.list.now c.loop-seed.seed-index _ _
          c.loop-seed-test.true c.index.ensures.value (c.args.seeds.inside _ _ c.loop-seed-test.true) (omega (arith, c.index.ensures.below, c.loop-seed.invariant.0))
          c.loop-seed.invariant.1,
    )

pub index-requires : goal.index-requires
index-requires c = c.args.seeds.inside _ _ c.loop-seed-test.true

pub index_mut-requires : goal.index_mut-requires
index_mut-requires c = omega (arith, c.index.ensures.below, c.loop-seed.invariant.0)

pub returns : goal.returns
returns c = record {
  long = c.loop-seed.invariant.0;
  seeds = Told-contains (IsInside c.args.seeds.machine.now) (index_of c.args.seeds.machine.now) chip_eq chip_eq_true chip_eq_same c.loop-seed.table.items c.args.seeds.list.now
      (rw (take_all c.loop-seed.seed-index c.args.seeds.list.now c.loop-seed-test.false) at c.loop-seed.invariant.1);
}
