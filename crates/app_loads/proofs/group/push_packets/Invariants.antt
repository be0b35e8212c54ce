use Rattle.app_loads.proofs.Common.{deliveries_in, take, ◌++◌, ◌≡◌}
use Rattle.app_loads.proofs.group.push_packets.Given as goal

-- those of the packets so far
abbrev pub invariant-loop-packet : goal.invariant-loop-packet
invariant-loop-packet l = l.list ≡ l.fn.list ++ deliveries_in (take l.packet-index l.sent) l.arrivals
