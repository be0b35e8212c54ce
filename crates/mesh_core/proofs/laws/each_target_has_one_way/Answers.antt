use Rattle.mesh_core.proofs.{OneWay.one_way, Ways.some_way}
use Rattle.mesh_core.proofs.laws.each_target_has_one_way.Goals as goal

pub returns-clause-some : goal.returns-clause-some
returns-clause-some c = λ m spots nets net target stand has is_target. some_way m spots nets stand net has target is_target

pub returns-clause-no_other : goal.returns-clause-no_other
returns-clause-no_other c = λ m spots nets net target branch other from begin to end stand has way also.
    one_way m spots nets stand net has target branch other from begin to end way also
