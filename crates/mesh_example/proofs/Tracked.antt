-- Each packet of a job is tracked, on each mesh that meets the job's ledger.
use Rattle.std.proofs.Common.{arith, ◌≡◌, ℕ, List, Some}
use Rattle.std.specs.List.{slice_get}
use Rattle.spin_base.specs.declared.copies.Packet.{Packet}
use Rattle.machine_desc.specs.declared.nets.NetPlan.{NetPlan}
use Rattle.mesh_core.specs.{State.State, Opened.MeetsJobLedger, Whereabouts.IsTracked}
use Rattle.mesh_core.proofs.AskedPackets.{asks, asked_from, net_in_list}

pub job_tracked : (s : State) (nets : List NetPlan) (packets : List Packet) → MeetsJobLedger s nets packets →
    (i : ℕ) (p : Packet) (net : NetPlan) → slice_get packets i ≡ Some p → slice_get nets p.net ≡ Some net → IsTracked s net i
job_tracked s nets packets job i p net at is = grind (arith, asked_from nets packets i p net at is, asks net p, net_in_list nets p net is)
