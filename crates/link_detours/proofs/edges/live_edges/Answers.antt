use Rattle.link_detours.proofs.Common.{arith, take_all}
use Rattle.link_detours.proofs.edges.live_edges.Goals as goal

pub returns : goal.returns
returns c = grind (arith, take_all)
