-- Where a queue has room for a copy of each packet that is under way, no copy is dumped.
use Rattle.mesh_core.proofs.Common.{All-contains, Among, Bool, Chip, Contains, Did, Dump, Err, Event, Hand, Idle, IfOk, IsMesh, Label, List, Mark, McCopy, MeetsJobLedger, MeetsLedger, Moved, NetPlan}
use Rattle.mesh_core.proofs.Common.{None, Ok, OnlyUnderWay, Option, Out, Packet, Queue, Result, Some, State, among_contains, and_parts, answer, ap, arith, asked_by, behind, contains_among, core}
use Rattle.mesh_core.proofs.Common.{count_by, count_by-cons, count_by-none, dump_of, eq-eqb, eqb-true, false, has_room_behind, if◌then◌else◌, in_hand, index_of, inl, input, inr, is_live_chip, is_some}
use Rattle.mesh_core.proofs.Common.{label_of, length, length-range_with_len, list_any, live_inside, lt-ltb, marks_of, not, nowhere, out_eq, queue_of, range_with_len, refl, serves, slice_get, subst}
use Rattle.mesh_core.proofs.Common.{sym, true, ℕ, ◌&&◌, ◌+◌, ◌<◌, ◌==◌, ◌∙◌, ◌∷◌, ◌≡◌, ◌≢◌, ◌≤◌}
use Rattle.mesh_core.proofs.{Standing.among_outs, Standing.held_mark, Counting.length_covered, Counting.count_le, Moves.mark, OnlyUnderWay.of_job, Queued.FreeBehind, Queued.free_behind}
use Rattle.mesh_core.proofs.Queued.{once_in_queue, waiting_mark}

-- a queue that is shorter than the capacity has room
room_of : (s : State) (b : Queue) (q : List McCopy) → queue_of s b ≡ Some q → length q < s.setup.capacity → has_room_behind s b ≡ true
room_of s b q at short = grind (arith, lt-ltb, short)

one_more : (b : Bool) (n : ℕ) → (b ≡ true → n ≤ 0) → n ≤ 1 → (if b then 1 else 0) + n ≤ 1
one_more b n none few = grind arith

module _ (s : State) (nets : List NetPlan) (labels : ℕ → Label) (numbers : List ℕ) (mesh : IsMesh s) (ledger : MeetsLedger s nets labels)
    (only : OnlyUnderWay numbers s) (roomy : length numbers ≤ s.setup.capacity) where
  -- the copies in a queue are of these packets
  listed_in : (b : Queue) (q : List McCopy) → queue_of s b ≡ Some q → (j : McCopy) → Among j q → Contains numbers j.packet
  listed_in (input i) q at j among = only _ (waiting_mark s nets labels ledger (input i) q at j among) tt
  listed_in (core v) q at j among = only _ (waiting_mark s nets labels ledger (core v) q at j among) tt
  listed_in nowhere q at j among = cc

  module _ (c : Chip) (o : Out) (k : McCopy) (has : Contains (marks_of s) (mark k (in_hand c o))) where
    free : FreeBehind s c o k.packet
    free = free_behind s nets labels ledger mesh c o k has

    -- the packet in hand and those in the queue behind it are different ones of these
    short : length free.0 < length numbers
    short =
        let few : length (k ∷ free.0) ≤ length numbers =
        length_covered (λ n (j : McCopy). j.packet == n) numbers (k ∷ free.0)
        (λ j a. (j.packet, contains_among j.packet numbers (listed j a), eq-eqb j.packet j.packet refl)) (λ n a. each n) in
        omega (arith, few)
      where
        listed : (j : McCopy) → Among j (k ∷ free.0) → Contains numbers j.packet
        listed j (inl same) = subst (λ (i : McCopy). Contains numbers i.packet) (sym same) (only (mark k (in_hand c o)) has tt)
        listed j (inr later) = listed_in (behind s.setup c o) free.0 free.1 j later

        each : (i : ℕ) → count_by (λ (j : McCopy). j.packet == i) (k ∷ free.0) ≤ 1
        each i =
            subst (λ n. n ≤ 1) (sym (count_by-cons (λ (j : McCopy). j.packet == i) k free.0))
            (one_more (k.packet == i) (count_by (λ (j : McCopy). j.packet == i) free.0) none (once_in_queue s nets labels ledger (behind s.setup c o) free.0 free.1 i))
          where
            none : (k.packet == i) ≡ true → count_by (λ (j : McCopy). j.packet == i) free.0 ≤ 0
            none is =
                let number : k.packet ≡ i = eqb-true k.packet i is in
                let fewer = count_le (λ (j : McCopy). j.packet == i) (λ j. false) free.0 (λ j among same.
                absurd (All-contains (λ (d : McCopy). d.packet ≢ k.packet) free.0 j free.2 (among_contains j free.0 among) (eqb-true j.packet i same ∙ sym number))) in
                omega (arith, fewer, count_by-none free.0)

    room : has_room_behind s (behind s.setup c o) ≡ true
    room = room_of s (behind s.setup c o) free.0 free.1 (omega (arith, short, roomy))

  idle_by : (c : Chip) (o : Out) (h : Hand) → slice_get s.hands (index_of s.setup.machine c) ≡ Some (Some h) → (serving has : Bool) →
      serves s c o (Some (Some h)) ≡ serving → has_room_behind s (behind s.setup c o) ≡ has → (t : State) →
      (if serving && not has then Some t else None) ≡ None
  idle_by c o h at false has idle room' t = refl
  idle_by c o h at true true serving room' t = refl
  idle_by c o h at true false serving full t =
      let parts = and_parts (is_live_chip s.setup.machine c) (list_any (out_eq o) h.outs) serving in
      let m : Mark = mark h.copy (in_hand c o) in
      let there : Contains (marks_of s) m =
      among_contains m (marks_of s) (held_mark s c o (live_inside s.setup.machine c parts.0) h at (among_outs o h.outs parts.1)) in
      let has_it = room c o h.copy there in
      cc

  pub dump_none : (c : Chip) (o : Out) (hand : Option (Option Hand)) → slice_get s.hands (index_of s.setup.machine c) ≡ hand → dump_of s c o hand ≡ None
  dump_none c o (Some (Some h)) at = idle_by c o h at (serves s c o (Some (Some h))) (has_room_behind s (behind s.setup c o)) refl refl _
  dump_none c o (Some None) at = refl
  dump_none c o None at = refl

  -- No Dump is enabled.
  pub no_dump : (c : Chip) (o : Out) → answer s (Dump c o) ≡ Idle
  no_dump c o = ap (λ (t : Option State). if is_some t then Moved else Idle) (dump_none c o (slice_get s.hands (index_of s.setup.machine c)) refl)

-- So an event that is a Dump is answered by Idle, where it is answered.
pub idle_result : {E : Type 0} (r : Result Did E) (s : State) (e : Event) → IsMesh s → IfOk r (λ did. did ≡ answer s e) →
    (nets : List NetPlan) (packets : List Packet) (c : Chip) (o : Out) → MeetsJobLedger s nets packets → length packets ≤ s.setup.capacity → e ≡ Dump c o →
    IfOk r (λ did. did ≡ Idle)
idle_result (Ok did) s e mesh told nets packets c o job roomy is =
    told ∙ (ap (answer s) is
    ∙ no_dump s nets (λ i. label_of (asked_by nets packets i)) (range_with_len 0 (length packets)) mesh job.ledger.ledger (of_job s nets packets job)
    (omega (arith, length-range_with_len 0 (length packets), roomy)) c o)
idle_result (Err x) s e mesh told nets packets c o job roomy is = tt
