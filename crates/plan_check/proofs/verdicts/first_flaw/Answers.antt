use Rattle.plan_check.proofs.Common.{None, get_or, get_or_default, length, subst, sym, ◌<◌, ◌∙◌, ◌≤◌}
use Rattle.plan_check.proofs.Chips.{rows_valid, rows_few, flaw_found, fine_more, fine_to_the_end}
use Rattle.plan_check.proofs.verdicts.first_flaw.Goals as goal

pub invariant_of-rows : goal.invariant_of-rows
invariant_of-rows c = record {
  valid = rows_valid c.args.tables.now.grid.image.now c.rows_of.result.now c.loop-index.index c.args.tables.now.grid.valid c.rows_of.ensures;
  few = rows_few c.args.tables.now.grid.image.now c.rows_of.result.now c.loop-index.index c.args.tables.now.grid.valid c.rows_of.ensures;
}

pub returns-in-Some : goal.returns-in-Some
returns-in-Some c =
    let in_ports : c.loop-index.index < length c.args.ports.now = subst (λ n. c.loop-index.index < n) (c.chips-index-end.ensures.total ∙ sym c.requires.ports_long) c.loop-index-test.true in
    let in_routes : c.loop-index.index < length c.args.routes.now = subst (λ n. c.loop-index.index < n) (c.chips-index-end.ensures.total ∙ sym c.requires.routes_long) c.loop-index-test.true in
    flaw_found c.args.tables.now.grid.machine.now c.args.tables.now.grid.image.now c.args.net.now c.requires.routed c.args.ports.now c.args.routes.now c.requires.comes_in c.requires.outputs
    c.loop-index.index c.rows_of.result.now (get_or c.args.ports.now c.loop-index.index None) c.index-routes-index.result in_ports in_routes c.rows_of.ensures
    (get_or_default c.args.ports.now c.loop-index.index None (get_or c.args.ports.now c.loop-index.index None) in_ports) c.index-routes-index.is
    c.chip_at.result c.in-Some.flaw c.chip_at.ensures.inside c.chip_at.ensures.back c.in-Some.ensures c.loop-index.invariant

pub loop-index-preserved : goal.loop-index-preserved
loop-index-preserved c =
    let in_ports : c.loop-index.index < length c.args.ports.now = subst (λ n. c.loop-index.index < n) (c.chips-index-end.ensures.total ∙ sym c.requires.ports_long) c.loop-index-test.true in
    let in_routes : c.loop-index.index < length c.args.routes.now = subst (λ n. c.loop-index.index < n) (c.chips-index-end.ensures.total ∙ sym c.requires.routes_long) c.loop-index-test.true in
    fine_more c.args.tables.now.grid.machine.now c.args.tables.now.grid.image.now c.args.net.now c.requires.routed c.args.ports.now c.args.routes.now c.requires.comes_in c.requires.outputs
    c.loop-index.index c.rows_of.result.now (get_or c.args.ports.now c.loop-index.index None) c.index-routes-index.result in_ports in_routes c.rows_of.ensures
    (get_or_default c.args.ports.now c.loop-index.index None (get_or c.args.ports.now c.loop-index.index None) in_ports) c.index-routes-index.is
    c.flaw_at.result c.in_default.is c.flaw_at.ensures c.loop-index.invariant

pub returns : goal.returns
returns c =
    fine_to_the_end c.args.tables.now.grid.machine.now c.args.tables.now.grid.image.now c.args.net.now c.requires.routed c.args.ports.now c.args.routes.now c.requires.comes_in c.requires.outputs
    c.loop-index.index (subst (λ n. n ≤ c.loop-index.index) c.chips-index-end.ensures.total c.loop-index-test.false) c.loop-index.invariant
