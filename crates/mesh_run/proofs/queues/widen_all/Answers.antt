use Rattle.mesh_run.proofs.Common.{HoldsAll, LinkEnds, List, StayUp, subst, ◌+◌, ◌∙◌}
use Rattle.mesh_run.proofs.{Holding.only_ends, Resting.after_refusal, Resting.all_stay, Resting.links_past, Resting.next_at, Resting.next_up, Resting.one_done, Resting.some_stay}
use Rattle.mesh_run.proofs.queues.widen_all.Goals as goal

pub widen_at-requires : goal.widen_at-requires
widen_at-requires g c =
    let h = c.loop-place.invariant in
    let n = next_at h.3 h.1 (c.len-place-end.ensures ∙ c.args.standing.now.links.ok.0) c.loop-place-test.true in
    (h.3.now, n.old, h.3.holds, n.stands, next_up n h.2)

pub returns-in_err-widen_at-clause-back : goal.returns-in_err-widen_at-clause-back
returns-in_err-widen_at-clause-back g c =
    let h = c.loop-place.invariant in
    let n = next_at h.3 h.1 (c.len-place-end.ensures ∙ c.args.standing.now.links.ok.0) c.loop-place-test.true in
    after_refusal c.from_residual.result ((ends : List LinkEnds) → HoldsAll ends c.args.standing.now → StayUp c.args.places.cap 0 ends c.widen_at.new.standing) (λ ends holds.
    subst (λ (l : List LinkEnds). StayUp c.args.places.cap 0 l c.widen_at.new.standing) (only_ends h.0 ends c.args.standing.now h.1 holds)
    (some_stay h.3 n h.2 (c.in_err-widen_at.ensures.back h.3.now n.old h.3.holds n.stands (next_up n h.2))))

pub loop-place-preserved : goal.loop-place-preserved
loop-place-preserved g c =
    let h = c.loop-place.invariant in
    let n = next_at h.3 h.1 (c.len-place-end.ensures ∙ c.args.standing.now.links.ok.0) c.loop-place-test.true in
    let at = c.in_ok-widen_at.ensures.wide h.3.now n.old h.3.holds n.stands (next_up n h.2) in
    (h.0, h.1, h.2, one_done at.now h.3 n at.up at.holds)

pub returns-clause-wide : goal.returns-clause-wide
returns-clause-wide g c = λ ends holds.
    let h = c.loop-place.invariant in
    subst (λ (l : List LinkEnds). StayUp c.args.places.cap (c.args.places.turns + 1) l c.loop-place.standing) (only_ends h.0 ends c.args.standing.now h.1 holds)
    (all_stay h.3 (links_past h.3 h.1 (c.len-place-end.ensures ∙ c.args.standing.now.links.ok.0) c.loop-place-test.false))
