use Rattle.par_compile.proofs.Common.{All, All-head, All-tail, AreCoverable, IsStillPlain, List, Mark, arith, common_steps, into_iter_items, refl, subst, sym}
use Rattle.par_compile.proofs.Working.{AreGiven, all_made, given_more}
use Rattle.par_compile.proofs.workers.works_of.Goals as goal

pub invariant_of-ready : goal.invariant_of-ready
invariant_of-ready c = grind (arith, All-head AreCoverable c.in-Some.marks (into_iter_items c.next.new.self) (subst (All AreCoverable) c.in-Some.ensures.steps.0 c.loop-marks.invariant.3))

pub loop-marks-preserved : goal.loop-marks-preserved
loop-marks-preserved c = (
  tt,
  tt,
  subst (AreGiven IsStillPlain c.args.blocks (into_iter_items c.next.new.self)) (sym c.in_ok-push.ensures.items)
      (given_more IsStillPlain c.args.blocks (into_iter_items c.next.new.self) c.loop-marks.works.items c.in-Some.marks _
      (subst (λ (rest : List (List Mark)). AreGiven IsStillPlain c.args.blocks rest c.loop-marks.works.items) c.in-Some.ensures.steps.0 c.loop-marks.invariant.2) refl),
  All-tail AreCoverable c.in-Some.marks (into_iter_items c.next.new.self) (subst (All AreCoverable) c.in-Some.ensures.steps.0 c.loop-marks.invariant.3),
)

pub returns : goal.returns
returns c = grind (arith, all_made, common_steps)
