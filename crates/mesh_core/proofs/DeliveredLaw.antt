-- A mesh at rest that meets the ledger of a job, without a dump, has delivered what the job asks for.
use Rattle.mesh_core.proofs.Common.{Among, AreAsExpected, Bool, Contains, Delivery, Exit, IsAskedFor, IsAtRest, IsTracked, IsWayOn, Label, List, Mark, McCopy, MeetsJobLedger, NetPlan, None, Packet}
use Rattle.mesh_core.proofs.Common.{Some, Spot, State, [], among_contains, and_from, and_parts, ap, append-nil, arith, asked_by, at_core, chip_of, contains_among, count_by, count_by-map, delivered}
use Rattle.mesh_core.proofs.Common.{delivered_marks, eqb-true, gathered_of_none, hand_marks, in_queue, inr, is_packet_on_trail, label_in, label_of, length, map_among, marks_at, marks_of, port_of}
use Rattle.mesh_core.proofs.Common.{refl, slice_get, subst, sym, true, unsent, ℕ, ◌%◌, ◌&&◌, ◌+◌, ◌/◌, ◌==◌, ◌∙◌, ◌≡◌}
use Rattle.mesh_core.proofs.{Tracked.asked_tracked, Tracked.on_net, Tracked.once_on_way, MarkTests.copies_alike, WalkingUp.ends_on, AskedPackets.asks, AskedPackets.asked_parts}
use Rattle.mesh_core.proofs.{AskedPackets.asked_from, Moves.mark, Counting.count_agree}

-- the mark of a delivery
abbrev mark_of : Delivery → Mark
mark_of d = mark d.copy (delivered d.vertex)

module _ (s : State) (nets : List NetPlan) (packets : List Packet) (job : MeetsJobLedger s nets packets)
    (rest : IsAtRest s) (no_dump : s.dumped ≡ []) where
  -- the only marks are those of deliveries
  only_deliveries : marks_of s ≡ delivered_marks s
  only_deliveries =
      let sent = gathered_of_none (λ v (q : List McCopy). marks_at (unsent v) q) [] (λ j. refl) 0 s.unsent rest.all_sent in
      let inputs = gathered_of_none (λ i (q : List McCopy). marks_at (in_queue (chip_of s.setup.machine (i / 7)) (port_of (i % 7))) q) [] (λ j. refl) 0 s.inputs rest.waits.inputs_empty in
      let hands = gathered_of_none (λ i h. hand_marks (chip_of s.setup.machine i) h) None (λ j. refl) 0 s.hands rest.waits.hands_empty in
      let cores = gathered_of_none (λ v (q : List McCopy). marks_at (at_core v) q) [] (λ j. refl) 0 s.cores rest.waits.cores_empty in
      rw (sent, inputs, hands, cores, no_dump) (append-nil (delivered_marks s))

  has_mark : (d : Delivery) → Contains s.delivered d → Contains (marks_of s) (mark_of d)
  has_mark d has =
      subst (λ l. Contains l (mark_of d)) (sym only_deliveries)
      (among_contains (mark_of d) (delivered_marks s) (map_among mark_of d s.delivered (contains_among d s.delivered has)))

  tracked : (i : ℕ) (p : Packet) (net : NetPlan) → slice_get packets i ≡ Some p → slice_get nets p.net ≡ Some net → IsTracked s net i
  tracked i p net at is = asked_tracked s nets (asked_by nets packets) job.ledger i (asks net p) (asked_from nets packets i p net at is)

  asked_for : (d : Delivery) → Contains s.delivered d → IsAskedFor s nets packets d
  asked_for d has =
      let there = has_mark d has in
      let label = job.ledger.ledger.labelled (mark_of d) there in
      let asked = job.ledger.was_asked (mark_of d) there in
      let parts = asked_parts nets packets d.copy.packet asked.0 asked.1 in
      let its_label : label_of (asked_by nets packets d.copy.packet) ≡ label_in parts.net parts.packet =
      ap label_of (asked_from nets packets d.copy.packet parts.packet parts.net parts.is_packet parts.is_net) in
      let u = on_net s parts.net d.copy.packet (tracked d.copy.packet parts.packet parts.net parts.is_packet parts.is_net) (mark_of d) there refl in
      let on = and_parts (d.vertex == u.to) (d.copy.hop == length u.branch) u.on in
      record {
        number = d.copy.packet;
        packet = parts.packet;
        net = parts.net;
        target = u.target;
        branch = u.branch;
        from = u.from;
        is_packet = parts.is_packet;
        is_net = parts.is_net;
        is_way = subst (λ v. IsWayOn s.setup.machine s.setup.spots parts.net u.target u.branch u.from v) (sym (eqb-true d.vertex u.to on.0)) u.way;
        is_copy = copies_alike d.copy.packet d.copy.packet d.copy.key (parts.net.block.key + parts.packet.index) d.copy.hop (length u.branch) d.copy.payload
            parts.packet.payload refl (label.0 ∙ ap (λ (l : Label). l.key) its_label) (label.1 ∙ ap (λ (l : Label). l.payload) its_label)
            (eqb-true d.copy.hop (length u.branch) on.1);
      }

  each_once : (i : ℕ) (p : Packet) (net : NetPlan) → slice_get packets i ≡ Some p → slice_get nets p.net ≡ Some net →
      (target : Spot) (branch : List Exit) (from to : ℕ) → IsWayOn s.setup.machine s.setup.spots net target branch from to →
      count_by (λ (d : Delivery). (d.copy.packet == i) && (d.vertex == to)) s.delivered ≡ 1
  each_once i p net at is target branch from to w =
      count_agree q (λ d. is_packet_on_trail i from to branch (mark_of d)) s.delivered agrees
      ∙ (sym (count_by-map (is_packet_on_trail i from to branch) mark_of s.delivered)
      ∙ (ap (count_by (is_packet_on_trail i from to branch)) (sym only_deliveries) ∙ once_on_way s net i (tracked i p net at is) target branch from to w))
    where
      q : Delivery → Bool
      q d = (d.copy.packet == i) && (d.vertex == to)

      agrees : (d : Delivery) → Among d s.delivered → q d ≡ is_packet_on_trail i from to branch (mark_of d)
      agrees d a = grind (arith, q, forth, and_parts, and_from)
        where
          forth : q d ≡ true → is_packet_on_trail i from to branch (mark_of d) ≡ true
          forth yes' =
              let parts = and_parts (d.copy.packet == i) (d.vertex == to) yes' in
              let there = has_mark d (among_contains d s.delivered a) in
              and_from (d.copy.packet == i) ((d.vertex == to) && (d.copy.hop == length branch)) parts.0
              (ends_on s net i (tracked i p net at is) target w.is_target branch from to w (mark_of d) there (eqb-true d.copy.packet i parts.0)
              (d.vertex, w.ends ∙ ap Some (sym (eqb-true d.vertex to parts.1)), inr refl))

  pub delivered_as_expected : AreAsExpected s nets packets
  delivered_as_expected = record { no_other = asked_for; each_once = each_once }
