use Rattle.par_compile.proofs.Common.{GivesFinal, List, Work, arith, common_steps, into_iter_items, subst, sym}
use Rattle.par_compile.proofs.Working.{AreGiven, all_given, given_at_end, given_more, last_is_long}
use Rattle.par_compile.proofs.workers.finals_of.Goals as goal

pub loop-work-preserved : goal.loop-work-preserved
loop-work-preserved c = (
  tt,
  tt,
  subst (AreGiven (GivesFinal c.args.target) c.args.works.items (into_iter_items c.next.new.self)) (sym c.in_ok-push.ensures.ok)
      (given_more (GivesFinal c.args.target) c.args.works.items (into_iter_items c.next.new.self) c.loop-work.finals c.in-Some.work c.in_ok-done.done
      (subst (λ (rest : List Work). AreGiven (GivesFinal c.args.target) c.args.works.items rest c.loop-work.finals) c.in-Some.ensures.steps.0 c.loop-work.invariant.2) c.in_ok-done.ensures),
)

pub returns-then-long-clause-finals : goal.returns-then-long-clause-finals
returns-then-long-clause-finals c =
    all_given (GivesFinal c.args.target) c.args.works.items (into_iter_items c.next.new.self) c.push.new.self
    (subst (AreGiven (GivesFinal c.args.target) c.args.works.items (into_iter_items c.next.new.self)) (sym c.in_ok-push.ensures.ok)
    (given_more (GivesFinal c.args.target) c.args.works.items (into_iter_items c.next.new.self) c.loop-work.finals c.in-Some.work c.in_ok-done.done
    (subst (λ (rest : List Work). AreGiven (GivesFinal c.args.target) c.args.works.items rest c.loop-work.finals) c.in-Some.ensures.steps.0 c.loop-work.invariant.2) c.in_ok-done.ensures))

pub returns-then-long-clause-all : goal.returns-then-long-clause-all
returns-then-long-clause-all c = grind (arith, last_is_long)

pub returns-clause-finals : goal.returns-clause-finals
returns-clause-finals c = all_given (GivesFinal c.args.target) c.args.works.items (into_iter_items c.loop-work.work-iterator) c.loop-work.finals c.loop-work.invariant.2

pub returns-clause-all : goal.returns-clause-all
returns-clause-all c = λ none.
    given_at_end (GivesFinal c.args.target) c.args.works.items (into_iter_items c.loop-work.work-iterator) c.loop-work.finals
    (grind (arith, common_steps, c.in-None.ensures.steps.0)) c.loop-work.invariant.2
