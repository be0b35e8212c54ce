use Rattle.mesh_run.proofs.Common.{refl}
use Rattle.mesh_run.proofs.Slots.{ends_back}
use Rattle.mesh_run.proofs.standing.Standing.put_ends.Goals as goal

pub returns : goal.returns
returns c = λ ends old lacks at. ends_back ends c.args.place old c.args.tx c.args.rx c.args.self.now _ lacks at refl refl refl refl
