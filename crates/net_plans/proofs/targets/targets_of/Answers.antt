use Rattle.net_plans.proofs.Common.{AreOnBefore, AreTargets, HasCoresOf, IfOk-weaker, List, length, subst, sym, ℕ, ◌*◌}
use Rattle.net_plans.proofs.Boarding.{are_targets_on}
use Rattle.net_plans.proofs.targets.targets_of.Goals as goal

pub returns-in-Some : goal.returns-in-Some
returns-in-Some c =
    let board : List ℕ = c.deref.result.now in
    let told : HasCoresOf board c.args.targets.spots.now c.args.targets.vertices.now =
    subst (λ (b : List ℕ). HasCoresOf b c.args.targets.spots.now c.args.targets.vertices.now) (sym c.deref.ensures.value) (rw c.in-Some.is at c.in_ok-board.ensures.told) in
    IfOk-weaker c.cores_on.result (AreOnBefore board (length board * 32)) (AreTargets c.args.targets.spots.now c.args.targets.vertices.now)
    (λ cores before. are_targets_on board c.args.targets.spots.now c.args.targets.vertices.now cores told before) c.cores_on.ensures
