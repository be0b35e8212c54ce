use Rattle.spin_checks.proofs.Common.{HasGoodTree, fails, rules}
use Rattle.spin_checks.proofs.Growing.{good_more, all_good}
use Rattle.spin_checks.proofs.findings.first_bad.Goals as goal

pub returns-then-not-branch : goal.returns-then-not-branch
returns-then-not-branch c = record {
  net = c.get-net.result.now;
  there = c.get-net.ensures;
  bad = fails (HasGoodTree c.args.standing.machine.now c.get-net.result.now) c.in_ok-good.field-0 c.in_ok-good.ensures (search rules);
  before = c.loop-i.invariant;
}

pub loop-i-preserved : goal.loop-i-preserved
loop-i-preserved c = good_more _ _ _ _ c.loop-i.invariant c.get-net.ensures (c.in_ok-good.ensures.0 (search rules))

pub returns : goal.returns
returns c = all_good c.args.standing.machine.now c.args.standing.nets.now c.loop-i.i (search rules) c.loop-i.invariant
