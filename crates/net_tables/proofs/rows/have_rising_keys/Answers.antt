use Rattle.net_tables.proofs.Common.{All, Mark, ap, subst, sym, take, take_all, ◌+◌, ◌∙◌, ◌≤◌}
use Rattle.net_tables.proofs.Rising.{IsBelow, rising_more}
use Rattle.net_tables.proofs.rows.have_rising_keys.Goals as goal

pub loop-mark-preserved : goal.loop-mark-preserved
loop-mark-preserved c =
    let a : Mark = c.mark-item.result in
    let more = rising_more c.args.marks.now c.loop-mark.mark-index a c.args.mask c.loop-mark.least c.loop-mark-test.true
    (ap (λ (b : Mark). b.block.mask) (sym c.mark-item.is) ∙ c.if-cares-mask.false) (subst (λ (b : Mark). c.loop-mark.least ≤ b.block.key) c.mark-item.is c.if-key-least.false)
    c.loop-mark.invariant.in_order c.loop-mark.invariant.below in
    record {
      in_order = more.0;
      below = subst (λ (b : Mark). All (IsBelow c.args.mask b.block.key) (take (c.loop-mark.mark-index + 1) c.args.marks.now)) (sym c.mark-item.is) more.1;
    }

pub returns : goal.returns
returns c _ = rw (take_all c.loop-mark.mark-index c.args.marks.now c.loop-mark-test.false) at c.loop-mark.invariant.in_order
