use Rattle.app_loads.proofs.Common.{chains, rules, same_lists, sym}
use Rattle.app_loads.proofs.arrivals.are_same.Goals as goal

pub returns-then-arrivals-others : goal.returns-then-arrivals-others
returns-then-arrivals-others c all = same_lists _ _ (sym c.if-arrivals-others.true) (λ k d below. search (rules, chains))
