use Rattle.app_loads.proofs.Common.{Left, NoneUnderWay, OnOk, Result, UnloadErr, all_grouped, subst}
use Rattle.app_loads.proofs.Kept.{none_with}
use Rattle.app_loads.proofs.unloads.leave_ready.Goals as goal

pub returns-in-Some-clause-none : goal.returns-in-Some-clause-none
returns-in-Some-clause-none c =
    none_with (all_grouped c.args.earlier) c.args.mesh c.args.app.now
    (subst (λ (r : Result Left UnloadErr). OnOk r (NoneUnderWay c.args.mesh c.args.app.now)) c.in-Ok.is c.leave_mesh-mesh.ensures.none)
