use Rattle.link_detours.proofs.Common.{arith, take_all}
use Rattle.link_detours.proofs.edges.reached_edges.Goals as goal

pub index-requires : goal.index-requires
index-requires c = c.args.marked.edges.inside _ _ c.loop-edge-test.true

pub returns : goal.returns
returns c = grind (arith, take_all)
