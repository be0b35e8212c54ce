use Rattle.plan_check.proofs.Common.{IsRouted, arith, subst, sym}
use Rattle.plan_check.proofs.Chips.{verdict_found, nets_more, all_fine}
use Rattle.plan_check.proofs.verdicts.verdict_of.Goals as goal

pub returns-in-Some : goal.returns-in-Some
returns-in-Some c = grind (arith, verdict_found)

pub loop-at-preserved : goal.loop-at-preserved
loop-at-preserved c = grind (arith, nets_more)

pub returns : goal.returns
returns c = all_fine c.args.tables.now.grid.machine.now c.args.tables.now.grid.image.now c.args.nets.now c.loop-at.at c.loop-at-test.false c.loop-at.invariant.0

pub invariant_of-plan : goal.invariant_of-plan
invariant_of-plan c =
    record { routed = ∣ subst (IsRouted c.args.tables.now.grid.machine.now) (sym c.index-nets-at.is) (c.requires.routed c.loop-at.at c.index-nets-at.result c.loop-at-test.true) ∣₁ }

pub first_flaw-requires : goal.first_flaw-requires
first_flaw-requires c = grind arith
