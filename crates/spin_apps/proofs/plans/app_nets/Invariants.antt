use Rattle.spin_apps.proofs.Common.{All, AllZip, IsAppNet, IsNetFor, take}
use Rattle.spin_apps.proofs.Planning.{AreReachedBelow}
use Rattle.spin_apps.proofs.plans.app_nets.Given as goal

-- the nets so far are routed, and no target of them is cut off
abbrev pub invariant-loop-i : goal.invariant-loop-i
invariant-loop-i l = record {
  nets : AllZip (IsNetFor l.machine l.spots) (take l.i l.nets) l.routed;
  valid : All (IsAppNet l.machine l.spots) l.routed;
  reached : AreReachedBelow l.machine l.spots l.nets l.i;
}
