-- Where a queue has room for a copy of each packet that is under way, no list of events makes a dump record. So a run that comes
-- to rest has delivered all, where it has room for a copy of each packet of the job.
use Rattle.mesh_core.proofs.Common.{AreAsExpected, AreNetsOn, AreOfNets, AreRight, Collect, Dump, Event, Inject, IsAtRest, IsMesh, Label, List, MeetsJobLedger, MeetsLedger, NetPlan, OnlyUnderWay}
use Rattle.mesh_core.proofs.Common.{Option, Packet, Send, Setup, State, Take, [], after_event, after_events, ap, arith, asked_by, index_of, label_of, length, length-range_with_len, opened_mesh}
use Rattle.mesh_core.proofs.Common.{range_with_len, refl, slice_get, subst, sym, unwrap_or, ℕ, ◌∙◌, ◌∷◌, ◌≡◌, ◌≤◌}
use Rattle.mesh_core.proofs.{DeliveredLaw.delivered_as_expected, EventsLaw.event_keeps, EventsLaw.events_keep_job, Fixed.after_event_setup, Fixed.dumped_stays, NoDump.dump_none, OnlyUnderWay.of_job}
use Rattle.mesh_core.proofs.{OnlyUnderWay.only_after, OpenedLaw.opened_meets_ledger}

module _ (nets : List NetPlan) (labels : ℕ → Label) (numbers : List ℕ) where
  records_stay : (s : State) → IsMesh s → MeetsLedger s nets labels → OnlyUnderWay numbers s → length numbers ≤ s.setup.capacity → (e : Event) → (after_event s e).dumped ≡ s.dumped
  records_stay s mesh ledger only roomy (Inject v) = dumped_stays s (Inject v) tt
  records_stay s mesh ledger only roomy (Take c port) = dumped_stays s (Take c port) tt
  records_stay s mesh ledger only roomy (Send c o) = dumped_stays s (Send c o) tt
  records_stay s mesh ledger only roomy (Dump c o) =
      ap (λ (t : Option State). (unwrap_or t s).dumped) (dump_none s nets labels numbers mesh ledger only roomy c o (slice_get s.hands (index_of s.setup.machine c)) refl)
  records_stay s mesh ledger only roomy (Collect v) = dumped_stays s (Collect v) tt

  -- Nor does a list of events.
  pub records_after : (s : State) → IsMesh s → AreRight s.setup.machine s.setup.tables nets → MeetsLedger s nets labels → OnlyUnderWay numbers s →
      length numbers ≤ s.setup.capacity → (es : List Event) → (after_events s es).dumped ≡ s.dumped
  records_after s mesh right ledger only roomy [] = refl
  records_after s mesh right ledger only roomy (e ∷ es) =
      let keeps = event_keeps s nets labels mesh right ledger e in
      records_after (after_event s e) keeps.mesh keeps.right keeps.ledger (only_after numbers s mesh only e)
      (subst (λ (u : Setup). length numbers ≤ u.capacity) (sym (after_event_setup s e)) roomy) es
      ∙ records_stay s mesh ledger only roomy e

-- From the opened mesh of a job, whatever events come: at rest the mesh has delivered all that the job asks for.
pub run_delivers_all : (nets : List NetPlan) (packets : List Packet) (setup : Setup) → IsMesh (opened_mesh setup nets packets) → AreRight setup.machine setup.tables nets →
    AreNetsOn setup.machine setup.spots nets → AreOfNets nets packets → length packets ≤ setup.capacity →
    (es : List Event) → IsAtRest (after_events (opened_mesh setup nets packets) es) → AreAsExpected (after_events (opened_mesh setup nets packets) es) nets packets
run_delivers_all nets packets setup mesh right stand of_nets roomy es rest =
    let opened : State = opened_mesh setup nets packets in
    let job : MeetsJobLedger opened nets packets = opened_meets_ledger setup nets packets stand of_nets in
    delivered_as_expected (after_events opened es) nets packets (events_keep_job opened nets packets mesh right job es) rest
    (records_after nets (λ i. label_of (asked_by nets packets i)) (range_with_len 0 (length packets)) opened mesh right job.ledger.ledger
    (of_job opened nets packets job) (omega (arith, length-range_with_len 0 (length packets), roomy)) es)
