use Rattle.app_loads.proofs.Alike.{same_count}
use Rattle.app_loads.proofs.laws.alike_machines_have_as_many_deliveries.Goals as goal

pub returns : goal.returns
returns c = λ h g app apps also alike none. same_count c.each_target_has_one_way.ensures.no_other h g app apps also alike none
