use Rattle.key_alloc.proofs.Common.{AreRuns, ap, arith, in_range, is_free, refl, subst, sym, ◌+◌, ◌-◌, ◌||◌, ◌∙◌}
use Rattle.key_alloc.proofs.Frontier.{IsRunEnd, run_end, moved_up, passed, last_is_run_end}
use Rattle.key_alloc.proofs.free.FreeKeys.advance.Goals as goal

pub returns-then-self-end-clause-free : goal.returns-then-self-end-clause-free
returns-then-self-end-clause-free c taken state =
    let free = c.args.self.now in
    let end = c.end_of_run-end.result in
    let run = subst (IsRunEnd free.ahead.items) (sym c.end_of_run-end.ensures.end) (run_end free.ahead.items state.ahead.downwards) in
    let size = c.give.ensures.size ∙ c.in_ok-reserve.ensures.same.1 in
    moved_up taken free state end run c.if-self-end.true _
    (subst (λ n. AreRuns 0 n c.give.new.self.holes) (size ∙ state.size) c.give.ensures.runs)
    size refl refl refl
    (λ k. c.give.ensures.free k ∙ ap (λ holes. is_free holes k || in_range free.frontier (end - free.frontier) k) c.in_ok-reserve.ensures.same.0)

pub returns-in-Some-clause-free : goal.returns-in-Some-clause-free
returns-in-Some-clause-free c taken state =
    let is = c.in-Some.ensures.items in
    let end = last_is_run_end c.args.self.now.ahead.items c.pop.new.self.items c.in-Some.block is in
    passed taken c.args.self.now state c.in-Some.block c.pop.new.self.items is (omega (arith, end, c.end_of_run-end.ensures.end, c.if-self-end.false)) _ refl
    (ap (λ n. c.args.self.now.frontier + n) (omega (arith, c.from.ensures))) refl refl
