use Rattle.mesh_run.proofs.Common.{refl}
use Rattle.mesh_run.proofs.Slots.{set_there}
use Rattle.mesh_run.proofs.standing.Standing.set.Goals as goal

pub returns : goal.returns
returns c = λ before lacks. set_there before c.args.place c.args.ends c.args.self.now _ lacks refl refl refl refl
