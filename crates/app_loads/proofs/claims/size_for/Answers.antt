use Rattle.app_loads.proofs.Common.{rules}
use Rattle.app_loads.proofs.Claiming.{size_is}
use Rattle.app_loads.proofs.claims.size_for.Goals as goal

pub returns : goal.returns
returns c = search (rules, size_is)
