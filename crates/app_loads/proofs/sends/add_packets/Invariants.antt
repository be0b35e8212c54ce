use Rattle.app_loads.proofs.Common.{AreSent, AreSources, IsSameBeside, List, Spot}
use Rattle.app_loads.proofs.sends.add_packets.Given as goal

-- the packets so far are sent
abbrev pub invariant-loop-at : goal.invariant-loop-at
invariant-loop-at l = record {
  sent : (spots : List Spot) → AreSources spots l.app.plan.nets l.sources → AreSent spots l.app l.at l.fn.unsent l.unsent;
  same : IsSameBeside l.sources l.fn.unsent l.unsent;
}
