use Rattle.job_readers.proofs.Common.{Included, IsRangeOf, IsSome, Unbounded, ap, get, le_from_not_gt, list_any, nat_cmp, nat_le, refl, shares_key, subst, sym, ◌∙◌}
use Rattle.job_readers.proofs.RangeSteps.{is_not_above, next_tells, all_before}
use Rattle.job_readers.proofs.fixed_blocks.FixedBlocks.meets.Goals as goal

pub returns-in-Some : goal.returns-in-Some
returns-in-Some c =
    let block = c.args.block in
    let firsts = c.self.inside.firsts in
    let part = subst (IsRangeOf nat_cmp (Included block.key) Unbounded firsts) c.in-Some.ensures.steps (c.range.ensures.in_range tt) in
    let next = part.1 in
    ap (nat_le _) c.last_key.ensures
    ∙ next_tells c.self.inside.listed.items (get nat_cmp firsts) c.self.invariant block c.requires _ _ next.1 (le_from_not_gt _ _ next.0.0)
    (λ q f from is. le_from_not_gt _ _ (part.2 q (is_not_above block.key q from, tt) (subst IsSome (sym is) refl)))
    ∙ ap (list_any (shares_key block)) c.self.view_is

pub returns-in-None : goal.returns-in-None
returns-in-None c =
    let block = c.args.block in
    let none = (c.range.ensures.in_range tt).5 c.in-None.ensures.steps.0 in
    sym (all_before c.self.inside.listed.items (get nat_cmp c.self.inside.firsts) c.self.invariant block c.requires (λ q from. none q (is_not_above block.key q from, tt)))
    ∙ ap (list_any (shares_key block)) c.self.view_is
