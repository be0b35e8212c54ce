use Rattle.app_loads.proofs.Common.{AreGivenBack, OnOk, State, all_grouped, subst, ◌∙◌}
use Rattle.app_loads.proofs.Kept.{same_mesh}
use Rattle.app_loads.proofs.unloads.leave.Goals as goal

pub returns-in-Ok-clause-given : goal.returns-in-Ok-clause-given
returns-in-Ok-clause-given c =
    let same = same_mesh (all_grouped c.mesh.inside.earlier) (all_grouped c.make_groups_ready.new.earlier) c.mesh.inside.mesh c.make_groups_ready.new.mesh
    c.make_groups_ready.ensures.mesh c.make_groups_ready.ensures.all in
    subst (λ (s : State). OnOk c.leave_ready.result.1 (AreGivenBack s.setup.machine c.args.app.now.ranges c.args.regions.now c.leave_ready.new.regions))
    (same ∙ c.mesh.view_is) c.leave_ready.ensures.given
