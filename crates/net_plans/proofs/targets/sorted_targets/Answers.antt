use Rattle.net_plans.proofs.Common.{AreTargets, nat_cmp, subst, sym, ◌∙◌}
use Rattle.net_plans.proofs.TargetLaws.{AreOnce, are_targets}
use Rattle.net_plans.proofs.targets.sorted_targets.Goals as goal

pub returns : goal.returns
returns c =
    let once : AreOnce nat_cmp c.in_ok-numbers.numbers.items c.each_once.new.keys.items =
    record { ascending = c.each_once.ensures.ascending; each = c.each_once.ensures.each; only = c.each_once.ensures.only } in
    let here : AreOnce nat_cmp c.in_ok-numbers.numbers.items c.deref.result.now = subst (AreOnce nat_cmp c.in_ok-numbers.numbers.items) (sym c.deref.ensures.value) once in
    subst (AreTargets c.args.targets.spots.now c.args.targets.vertices.now) (sym (c.from_vec.ensures ∙ c.in_ok-spots.ensures))
    (are_targets c.args.targets.spots.now c.args.targets.vertices.now c.args.targets.known c.in_ok-numbers.numbers.items c.in_ok-numbers.ensures c.deref.result.now here)
