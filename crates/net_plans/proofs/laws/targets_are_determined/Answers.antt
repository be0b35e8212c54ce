use Rattle.net_plans.proofs.{CutOffLaws.one_first_target, CutOffLaws.one_first_net, Determined.one_targets, Determined.one_target_chips}
use Rattle.net_plans.proofs.laws.targets_are_determined.Goals as goal

pub returns : goal.returns
returns c = record { one_list = one_targets; one_list_of_chips = one_target_chips; one_target = one_first_target; one_net = one_first_net }
