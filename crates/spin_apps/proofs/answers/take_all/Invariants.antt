use Rattle.spin_apps.proofs.Common.{FindHosts, drop, packet_count_of, string_bytes, ◌*◌, ◌≤◌}
use Rattle.spin_apps.proofs.Chain.{GoesOn}
use Rattle.spin_apps.proofs.answers.take_all.Given as goal

-- The steps so far are answered, and each had at most 65,536 packets. The first load that is left finds a host, or has a machine.
abbrev pub invariant-loop-step : goal.invariant-loop-step
invariant-loop-step l = record {
  goes : GoesOn l.steps l.hosted (drop l.step-index l.steps) (string_bytes l.text);
  find : FindHosts l.hosted (drop l.step-index l.steps);
  few : packet_count_of l.hosted ≤ 65536 * l.step-index;
}
