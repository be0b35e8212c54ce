use Rattle.job_readers.proofs.Common.{AreRanges, IfSome, IsRange, ap, false, get, list_any, nat_cmp, shares_key, subst, sym, ◌∙◌, ◌≡◌}
use Rattle.job_readers.proofs.RangeSteps.{is_other, one_more}
use Rattle.job_readers.proofs.fixed_blocks.FixedBlocks.and.Goals as goal

pub invariant_of-result : goal.invariant_of-result
invariant_of-result c =
    let block = c.in-Some.block in
    let range = subst (λ o. IfSome o IsRange) c.in-Some.is c.requires.range in
    let new = subst (λ o. IfSome o (λ b. list_any (shares_key b) c.args.self ≡ false)) c.in-Some.is c.requires.fresh in
    let before = get nat_cmp c.self.inside.firsts in
    let more = get nat_cmp c.insert.new.self in
    let updates = c.in_ok-insert.ensures.updates in
    let fresh = ap (list_any (shares_key block)) c.self.view_is ∙ new in
    subst (λ l. AreRanges l more) (sym c.in_ok-push.ensures.items)
    (one_more c.self.inside.listed.items before more c.self.invariant block range fresh
    (ap more (sym c.last_key.ensures) ∙ updates.1)
    (λ q other. updates.2 q (is_other c.last_key.result q (λ same. other (same ∙ c.last_key.ensures)))))
