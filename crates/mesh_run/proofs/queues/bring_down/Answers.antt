use Rattle.mesh_run.proofs.Common.{DownTo, IsDown, ap, length, set, subst, sym, take, ◌-◌, ◌<◌, ◌≡◌, ◌≤◌}
use Rattle.mesh_run.proofs.Holding.{only_ends, stands_next, next_are_ends, down_more, down_all}
use Rattle.mesh_run.proofs.queues.bring_down.Goals as goal

pub pop-link-requires : goal.pop-link-requires
pop-link-requires g c =
    let h = c.loop-gone.invariant in
    let below : c.loop-gone.gone < length h.0 = subst (λ n. c.loop-gone.gone < n) h.4 c.loop-gone-test.true in
    let n = stands_next h.0 c.loop-gone.gone c.loop-gone.standing _ _ h.5 below in
    (take (length h.0 - c.loop-gone.gone - 1) h.0, n.ends, n.stands)

pub invariant_of-whole : goal.invariant_of-whole
invariant_of-whole g c =
    let h = c.loop-gone.invariant in
    let below : c.loop-gone.gone < length h.0 = subst (λ n. c.loop-gone.gone < n) h.4 c.loop-gone-test.true in
    let n = stands_next h.0 c.loop-gone.gone c.loop-gone.standing _ _ h.5 below in
    let e = next_are_ends h.0 c.loop-gone.gone c.loop-gone.standing c.pop-link.result n below h.2 (c.pop-link.ensures _ _ n.stands).0 in
    record { sends = e.tx; takes = e.rx; empty = e.empty; spare = e.spare }

pub loop-gone-preserved : goal.loop-gone-preserved
loop-gone-preserved g c =
    let h = c.loop-gone.invariant in
    let all = h.0 in
    let items = c.loop-gone.queues.items in
    let below : c.loop-gone.gone < length all = subst (λ n. c.loop-gone.gone < n) h.4 c.loop-gone-test.true in
    let n = stands_next all c.loop-gone.gone c.loop-gone.standing _ _ h.5 below in
    let popped = c.pop-link.ensures _ _ n.stands in
    let q = c.from_seq.result in
    let is : set items (c.len-count.result - c.loop-gone.gone - 1) q ≡ set items (length all - c.loop-gone.gone - 1) q = ap (λ k. set items (k - c.loop-gone.gone - 1) q) h.4 in
    let down = c.link_down.ensures in
    let is_down = subst (IsDown c.pop-link.result) (sym c.from_seq.ensures) (record { all = down.held; bound = down.bound; noted = down.noted }) in (
      all,
      h.1,
      h.2,
      h.3,
      h.4,
      down_more all c.loop-gone.gone c.pop-link.result c.loop-gone.standing c.pop-link.new.self c.args.queues.now.items items _ q h.5 below h.3 n popped.0 popped.1 is_down is,
    )

pub returns-clause-down : goal.returns-clause-down
returns-clause-down g c = λ ends holds.
    let h = c.loop-gone.invariant in
    let past : length h.0 ≤ c.loop-gone.gone = subst (λ n. n ≤ c.loop-gone.gone) h.4 c.loop-gone-test.false in
    subst (λ all. DownTo all c.loop-gone.queues.items) (only_ends h.0 ends c.args.standing h.1 holds) (down_all h.0 c.loop-gone.gone c.loop-gone.standing _ _ h.5 past)
