-- A tracked packet of a net: each of its marks is on the trail of a target of the net, and each such trail has one.
use Rattle.mesh_core.proofs.Common.{Asked, Contains, Exit, IsKeyOf, IsTracked, IsWayOn, List, Mark, MeetsLedgerFor, NetPlan, Option, Some, Spot, State, ap, arith, count_by, is_packet_on_trail}
use Rattle.mesh_core.proofs.Common.{label_of, marks_of, subst, sym, ℕ, ◌∙◌, ◌≡◌}
use Rattle.mesh_core.proofs.{Ways.OnSomeTrail, LedgerLaw.one_net}

module _ (s : State) (net : NetPlan) (packet : ℕ) (tracked : IsTracked s net packet) where
  its_key : (k : Mark) → Contains (marks_of s) k → k.copy.packet ≡ packet → IsKeyOf net.block k.copy.key
  its_key k has is_packet =
      let here = (tracked.ledger.labelled k has).0 in
      let there = (tracked.ledger.labelled tracked.mark tracked.is_mark).0 in
      let same : tracked.mark.copy.key ≡ k.copy.key = there ∙ (ap (λ n. (tracked.labels n).key) (tracked.is_packet ∙ sym is_packet) ∙ sym here) in
      subst (λ n. IsKeyOf net.block n) same tracked.is_key

  pub on_net : (k : Mark) → Contains (marks_of s) k → k.copy.packet ≡ packet → OnSomeTrail s net k
  on_net k has is_packet =
      let on = tracked.ledger.on_a_trail k has in
      let one : on.0 ≡ net = one_net tracked.nets tracked.ledger.nets_stand.disjoint on.0 net on.1 tracked.in_nets k.copy.key on.2 (its_key k has is_packet) in
      record {
        target = on.3.0;
        branch = on.3.1;
        from = on.3.2;
        to = on.3.3;
        way = subst (λ (n : NetPlan). IsWayOn s.setup.machine s.setup.spots n on.3.0 on.3.1 on.3.2 on.3.3) one on.3.4;
        on = on.3.5;
      }

  pub once_on_way : (target : Spot) (branch : List Exit) (from to : ℕ) → IsWayOn s.setup.machine s.setup.spots net target branch from to →
      count_by (is_packet_on_trail packet from to branch) (marks_of s) ≡ 1
  once_on_way target branch from to way = grind (arith, count_by)

-- a packet that was asked for is tracked
pub asked_tracked : (s : State) (nets : List NetPlan) (asked : ℕ → Option Asked) → MeetsLedgerFor s nets asked → (i : ℕ) (a : Asked) → asked i ≡ Some a →
    IsTracked s a.net i
asked_tracked s nets asked meets i a is =
    let k = meets.each_asked i a is in
    let its = meets.of_its_net i a is in
    let key : k.0.copy.key ≡ a.label.key = (meets.ledger.labelled k.0 k.1).0 ∙ (ap (λ n. (label_of (asked n)).key) k.2 ∙ ap (λ o. (label_of o).key) is) in
    record {
      nets = nets;
      labels = λ n. label_of (asked n);
      ledger = meets.ledger;
      in_nets = its.0;
      mark = k.0;
      is_mark = k.1;
      is_packet = k.2;
      is_key = subst (λ n. IsKeyOf a.net.block n) (sym key) its.1;
    }
