use Rattle.plan_check.proofs.Common.{Description, arith, length, subst, ◌*◌, ◌∙◌, ◌≡◌}
use Rattle.plan_check.proofs.Marking.{goes_first, goes_more, goes_no_more, goes_to_end}
use Rattle.plan_check.proofs.trees.enters_once.Goals as goal

pub set-requires : goal.set-requires
set-requires c = rw c.in_ok-entered.ensures.machine c.args.rooted.inside

pub loop-edge-init : goal.loop-edge-init
loop-edge-init c = grind (arith, goes_first c.args.rooted.machine.now c.args.rooted.root c.args.edges.now c.in_ok-entered.entered.items.items c.in_ok-entered.ensures.items c.args.rooted.inside)

pub returns-then-not-enters_anew : goal.returns-then-not-enters_anew
returns-then-not-enters_anew c = goes_no_more _ _ _ _ _ c.loop-edge-test.true _ (rw c.loop-edge.invariant.0 at c.if-not-enters_anew.ensures.anew) c.loop-edge.invariant.1

pub loop-edge-preserved : goal.loop-edge-preserved
loop-edge-preserved c =
    let long = subst (λ (m : Description). length c.loop-edge.entered.items.items ≡ m.width * m.height) c.loop-edge.invariant.0 c.loop-edge.entered.long in (
      c.if-not-enters_anew.ensures.machine ∙ c.loop-edge.invariant.0,
      goes_more c.args.rooted.machine.now c.args.rooted.root c.args.edges.now c.loop-edge.edge-index _ c.loop-edge-test.true c.loop-edge.entered.items.items c.enters_anew.new.marks.items.items
          long (rw c.loop-edge.invariant.0 at c.if-not-enters_anew.ensures.anew) c.loop-edge.invariant.1,
    )

pub returns : goal.returns
returns c = goes_to_end _ _ _ _ _ c.loop-edge-test.false c.loop-edge.invariant.1
