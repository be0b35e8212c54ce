use Rattle.net_plans.proofs.Common.{IsChipOfOne, ap, subst, ◌∙◌}
use Rattle.net_plans.proofs.{TargetLaws.key_pushed, TargetLaws.key_there, targets.chip_keys.Goals.then-not-ends_at+in_ok-push, targets.chip_keys.Goals.else-not-ends_at}
use Rattle.net_plans.proofs.targets.chip_keys.Goals as goal

pub loop-i-preserved : goal.loop-i-preserved
loop-i-preserved c = elim c.if-not-ends_at.branch [
  | then-not-ends_at+in_ok-push w ↦
      key_pushed c.args.ends.machine.now c.args.ends.root c.args.ends.targets.now c.loop-i.i c.get.result.now c.get.ensures c.loop-i.keys.items c.loop-i.invariant
      w.distance.result w.distance.ensures.value c.if-not-ends_at.keys.items (ap (λ v. v.items) w.keys-is ∙ w.in_ok-push.ensures.items)
  | else-not-ends_at w ↦
      key_there c.args.ends.machine.now c.args.ends.root c.args.ends.targets.now c.loop-i.i c.get.result.now c.get.ensures c.loop-i.keys.items c.loop-i.invariant
      (subst (λ ks. IsChipOfOne ks c.get.result.now.chip) c.deref.ensures.value (c.ends_at.ensures w.if-not-ends_at.false)) c.if-not-ends_at.keys.items (ap (λ v. v.items) w.keys-is)
]
