use Rattle.app_loads.proofs.Common.{length, ◌≡◌}
use Rattle.app_loads.proofs.Served.{HaveBlocksBelow}
use Rattle.app_loads.proofs.loads.app_of.Given as goal

-- the nets of the claims so far have their blocks
abbrev pub invariant-loop-at : goal.invariant-loop-at
invariant-loop-at l = record {
  long : length l.blocks.items ≡ length l.plan.nets;
  each : HaveBlocksBelow l.claims l.ranges l.blocks.items l.at;
}
