use Rattle.app_loads.proofs.Common.{deliveries_at, take, ◌++◌, ◌≡◌}
use Rattle.app_loads.proofs.group.push_packet.Given as goal

-- those at the places so far
abbrev pub invariant-loop-arrival : goal.invariant-loop-arrival
invariant-loop-arrival l = l.list ≡ l.fn.list ++ deliveries_at (take l.arrival-index l.arrivals) l.sent
