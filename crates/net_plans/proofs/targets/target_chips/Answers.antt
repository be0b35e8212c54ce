use Rattle.net_plans.proofs.Common.{AreTargetChips, subst, sym, ◌∙◌}
use Rattle.net_plans.proofs.{TargetLaws.AreOnce, TargetLaws.are_target_chips, Ordering.compared}
use Rattle.net_plans.proofs.targets.target_chips.Goals as goal

pub returns : goal.returns
returns c =
    let once : AreOnce compared c.in_ok-keys.keys.items c.each_once.new.keys.items =
    record { ascending = c.each_once.ensures.ascending; each = c.each_once.ensures.each; only = c.each_once.ensures.only } in
    let here : AreOnce compared c.in_ok-keys.keys.items c.deref.result.now = subst (AreOnce compared c.in_ok-keys.keys.items) (sym c.deref.ensures.value) once in
    subst (AreTargetChips c.args.ends.machine.now c.args.ends.root c.args.ends.targets.now) (sym (c.from_vec.ensures ∙ c.in_ok-chips.ensures))
    (are_target_chips c.args.ends.machine.now c.args.ends.root c.args.ends.targets.now c.in_ok-keys.keys.items c.in_ok-keys.ensures c.deref.result.now here)
