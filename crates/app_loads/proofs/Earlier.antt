-- Deliveries that came earlier change nothing of what events do, and where no copy waits, all that is unsent keeps its ledger without
-- them.
use Rattle.app_loads.proofs.Common.{Bool, Chip, Collect, Contains, Contains-append_left, Delivery, Dump, Event, Exit, Hand, Inject, IsMesh, IsReachedDropless, Label, List, Mark, McCopy, MeetsLedger}
use Rattle.app_loads.proofs.Common.{MeetsSomeLedger, NetPlan, None, NothingWaits, Option, Out, Port, Queue, Send, Some, Spot, State, Station, Take, [], after_event, after_events, all_hand_marks}
use Rattle.app_loads.proofs.Common.{among_gathered, among_map, ap, append-nil, append_assoc, arith, at_core, chip_of, collect_of, contains_among, core_marks, count_by, count_by-append, count_some}
use Rattle.app_loads.proofs.Common.{delivered_marks, dump_of, dumped_marks, eq-eqb, false, gathered_of_none, hand_marks, has_room_behind, if◌then◌else◌, in_queue, index_of, inject_of, input}
use Rattle.app_loads.proofs.Common.{input_marks, is_packet_on_trail, marks_at, marks_of, on_trail, one_net, port_of, push_behind, queue_at, refl, same_Some, send_of, slice_get, step_of, subst, sym}
use Rattle.app_loads.proofs.Common.{take_of, true, unsent, unsent_marks, unwrap_or, vertex_at, with_earlier, ℕ, ◌%◌, ◌&&◌, ◌++◌, ◌/◌, ◌∙◌, ◌∷◌, ◌≡◌}

-- ---- events

module _ (ds : List Delivery) where
  abbrev we : State → State
  we s = with_earlier ds s

  abbrev later : Option State → Option State
  later (Some s) = Some (we s)
  later None = None

  chosen : (b : Bool) (t u : State) → t ≡ we u → (if b then Some t else None) ≡ later (if b then Some u else None)
  chosen true t u is = ap Some is
  chosen false t u is = refl

  pushed : (s : State) (q : Queue) (k : McCopy) → push_behind (we s) q k ≡ we (push_behind s q k)
  pushed s (input i) k = refl
  pushed s q k = refl

  roomy : (s : State) (q : Queue) → has_room_behind (we s) q ≡ has_room_behind s q
  roomy s (input i) = refl
  roomy s q = refl

  injected : (s : State) (v : ℕ) (spot : Option Spot) (q : Option (List McCopy)) → inject_of (we s) v spot q ≡ later (inject_of s v spot q)
  injected s v (Some spot) (Some (k ∷ rest)) = grind (arith, chosen)
  injected s v spot q = refl

  taken : (s : State) (c : Chip) (port : Port) (hand : Option (Option Hand)) (q : Option (List McCopy)) → take_of (we s) c port hand q ≡ later (take_of s c port hand q)
  taken s c port (Some None) (Some (k ∷ rest)) = chosen _ _ _ refl
  taken s c port hand q = refl

  sent : (s : State) (c : Chip) (o : Out) (hand : Option (Option Hand)) → send_of (we s) c o hand ≡ later (send_of s c o hand)
  sent s c o (Some (Some h)) = grind (arith, roomy, chosen, pushed)
  sent s c o hand = refl

  dropped : (s : State) (c : Chip) (o : Out) (hand : Option (Option Hand)) → dump_of (we s) c o hand ≡ later (dump_of s c o hand)
  dropped s c o (Some (Some h)) = grind (arith, roomy, chosen)
  dropped s c o hand = refl

  collected : (s : State) (v : ℕ) (q : Option (List McCopy)) → collect_of (we s) v q ≡ later (collect_of s v q)
  collected s v (Some (k ∷ rest)) = grind (arith, append_assoc ds s.delivered (record { vertex = v; copy = k } ∷ []))
  collected s v q = refl

  stepped : (s : State) (e : Event) → step_of (we s) e ≡ later (step_of s e)
  stepped s (Inject v) = injected s v (slice_get s.setup.spots v) (slice_get s.unsent v)
  stepped s (Take c port) = taken s c port (slice_get s.hands (index_of s.setup.machine c)) (slice_get s.inputs (queue_at s.setup.machine c port))
  stepped s (Send c o) = sent s c o (slice_get s.hands (index_of s.setup.machine c))
  stepped s (Dump c o) = dropped s c o (slice_get s.hands (index_of s.setup.machine c))
  stepped s (Collect v) = collected s v (slice_get s.cores v)

  later_or : (o : Option State) (s : State) → unwrap_or (later o) (we s) ≡ we (unwrap_or o s)
  later_or (Some t) s = refl
  later_or None s = refl

  pub event_with : (s : State) (e : Event) → after_event (we s) e ≡ we (after_event s e)
  event_with s e = ap (λ o. unwrap_or o (we s)) (stepped s e) ∙ later_or (step_of s e) s

  pub events_with : (s : State) (es : List Event) → after_events (we s) es ≡ we (after_events s es)
  events_with s [] = refl
  events_with s (e ∷ es) = ap (λ t. after_events t es) (event_with s e) ∙ events_with (after_event s e) es

  pub reached_with : (s t : State) → IsReachedDropless s t → IsReachedDropless (we s) (we t)
  reached_with s t reached = record { events = reached.events; dropless = reached.dropless; is = ap we reached.is ∙ sym (events_with s reached.events) }

-- ---- the ledger

module _ (ds : List Delivery) (s : State) (nets : List NetPlan) (labels : ℕ → Label)
    (l : MeetsLedger (with_earlier ds s) nets labels) (quiet : NothingWaits s) (none_delivered : s.delivered ≡ []) (none_dumped : s.dumped ≡ []) where
  only_unsent : marks_of s ≡ unsent_marks s ++ ([] ++ ([] ++ ([] ++ ([] ++ []))))
  only_unsent =
      let inputs : input_marks s ≡ [] = gathered_of_none (λ i copies. marks_at (in_queue (chip_of s.setup.machine (i / 7)) (port_of (i % 7))) copies) [] (λ j. refl) 0 s.inputs quiet.inputs_empty in
      let hands : all_hand_marks s ≡ [] = gathered_of_none (λ i h. hand_marks (chip_of s.setup.machine i) h) None (λ j. refl) 0 s.hands quiet.hands_empty in
      let cores : core_marks s ≡ [] = gathered_of_none (λ v copies. marks_at (at_core v) copies) [] (λ j. refl) 0 s.cores quiet.cores_empty in
      rw (inputs, hands, cores, none_delivered, none_dumped) refl

  own : marks_of s ≡ unsent_marks s
  own = only_unsent ∙ append-nil (unsent_marks s)

  abbrev behind_unsent : List Mark
  behind_unsent = input_marks s ++ (all_hand_marks s ++ (core_marks s ++ (delivered_marks (with_earlier ds s) ++ dumped_marks s)))

  in_own : (k : Mark) → Contains (marks_of s) k → Contains (unsent_marks s) k
  in_own k has = subst (λ m. Contains m k) own has

  in_whole : (k : Mark) → Contains (marks_of s) k → Contains (marks_of (with_earlier ds s)) k
  in_whole k has = Contains-append_left (unsent_marks s) behind_unsent k (in_own k has)

  -- an unsent copy is at its vertex
  stands : (k : Mark) → Contains (unsent_marks s) k → (v : ℕ) × (k.station ≡ unsent v)
  stands k has =
      let found = among_gathered (λ v copies. marks_at (unsent v) copies) k s.unsent (contains_among k (unsent_marks s) has) in
      let copy = among_map (λ (c : McCopy). let m : Mark = record { copy = c; station = unsent found.0 } in m) k found.1 found.3 in
      (found.0, ap (λ (m : Mark). m.station) copy.2)

  -- what is unsent has every trail of its net before it
  each_trail : (from to hop : ℕ) (other : ℕ) (branch also : List Exit) (v : ℕ) (st : Station) → st ≡ unsent v → on_trail from to branch hop st ≡ on_trail from other also hop st
  each_trail from to hop other branch also v st is = grind arith

  pub own_ledger : MeetsLedger s nets labels
  own_ledger = record {
    nets_stand = l.nets_stand;
    labelled = λ k has. l.labelled k (in_whole k has);
    on_a_trail = λ k has. l.on_a_trail k (in_whole k has);
    once_on_each = λ k has net in_nets key target branch from to way.
        let on = l.on_a_trail k (in_whole k has) in
        let one : on.0 ≡ net = one_net nets l.nets_stand.disjoint on.0 net on.1 in_nets k.copy.key on.2 key in
        let begins : Some on.3.2 ≡ Some from = sym on.3.4.begins ∙ (ap (λ (n : NetPlan). vertex_at s.setup.spots n.source) one ∙ way.begins) in
        let at = stands k (in_own k has) in
        let passes : on_trail from to branch k.copy.hop k.station ≡ true =
        each_trail from to k.copy.hop on.3.3 branch on.3.1 at.0 k.station at.1
        ∙ subst (λ f. on_trail f on.3.3 on.3.1 k.copy.hop k.station ≡ true) (same_Some on.3.2 from begins) on.3.5 in
        let p : Mark → Bool = is_packet_on_trail k.copy.packet from to branch in
        let test : p k ≡ true = ap (λ b. b && on_trail from to branch k.copy.hop k.station) (eq-eqb k.copy.packet k.copy.packet refl) ∙ passes in
        let some = count_some p k (unsent_marks s) test (contains_among k (unsent_marks s) (in_own k has)) in
        let all : count_by p (unsent_marks s ++ behind_unsent) ≡ 1 = l.once_on_each k (in_whole k has) net in_nets key target branch from to way in
        let here : count_by p (marks_of s) ≡ count_by p (unsent_marks s) = ap (count_by p) own in
        omega (arith, some, all, count_by-append p (unsent_marks s) behind_unsent, here);
  }

-- where no copy waits, and none was delivered or dropped but earlier, a mesh meets a ledger without the earlier deliveries
pub kept_without : (ds : List Delivery) (s : State) → MeetsSomeLedger (with_earlier ds s) → IsMesh s → NothingWaits s → s.delivered ≡ [] → s.dumped ≡ [] → MeetsSomeLedger s
kept_without ds s kept mesh quiet delivered dumped = grind (arith, own_ledger ds s kept.nets kept.labels kept.ledger quiet delivered dumped)
