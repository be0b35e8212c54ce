use Rattle.app_loads.proofs.Common.{chains, rules, same_lists}
use Rattle.app_loads.proofs.plans.copied_nets.Goals as goal

pub returns : goal.returns
returns c = same_lists _ _ (search (rules, chains)) (λ k d below. search (rules, chains))
