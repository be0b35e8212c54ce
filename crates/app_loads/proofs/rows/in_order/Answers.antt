use Rattle.app_loads.proofs.Common.{chains, rules}
use Rattle.app_loads.proofs.Copying.{all_in_order}
use Rattle.app_loads.proofs.rows.in_order.Goals as goal

pub returns : goal.returns
returns c = all_in_order _ _ (search (rules, chains)) (λ k below. search (rules, chains))
