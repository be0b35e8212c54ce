-- Each event that is enabled is one move of a copy that is under way.
use Rattle.mesh_core.proofs.Common.{Bool, ByLink, Chip, Collect, Core, Delivery, Dir, Dump, DumpRec, Event, Hand, Inject, IsInside, IsMesh, IsUnderWayAt, Link, List, Local, Mark, McCopy, None, Option}
use Rattle.mesh_core.proofs.Common.{Out, Port, PutIn, Queue, Send, Some, Spot, State, Take, TakenOut, [], after_serving, and_parts, append-nil, arith, at_core, behind, behind_link, core}
use Rattle.mesh_core.proofs.Common.{core_queue_of, delivered, dumped, false, far_inside, far_of, get_or_from_slice_get, hand_marks, has_room, has_room_behind, held_for, if◌then◌else◌, in_hand}
use Rattle.mesh_core.proofs.Common.{in_queue, index_of, inl, input, inr, is_live_chip, is_live_link, list_any, live_ends, live_inside, map, marks_of, onward, opposite_of, out_eq, out_eq_true, outputs}
use Rattle.mesh_core.proofs.Common.{outs_without, push_at, push_behind, queue_at, refl, serves, site_parts, slice_get, slice_get_within, slice_set, step_of, subst, sym, taken_out_after, true, unsent}
use Rattle.mesh_core.proofs.Common.{vertex_behind, ℕ, ◌++◌, ◌||◌, ◌∙◌, ◌∷◌, ◌≡◌}
use Rattle.mesh_core.proofs.{Enabled.FoundBy, Enabled.event_found, Moves.back_in, Moves.cores_change, Moves.delivered_changes, Moves.dumped_changes, Moves.front_out, Moves.hand_marks-held}
use Rattle.mesh_core.proofs.Moves.{hands_change, inputs_change, made_in, put_by_parts, taken_by_parts, unsent_changes, mark, Crosses, Exchange}
use Rattle.mesh_core.proofs.Fixed.{push_behind_leaves}

-- what an event that is enabled does
abbrev pub MovesOn : State → State → Type 0
MovesOn s t = (x : Exchange s t) × IsUnderWayAt x.leaves.station

-- ---- a queue with room is there

pub room_is_there : (capacity : ℕ) (q : Option (List McCopy)) → has_room capacity q ≡ true → (l : List McCopy) × (q ≡ Some l)
room_is_there capacity q room = grind arith

appended_is : (lists : List (List McCopy)) (i : ℕ) (k : McCopy) (q : Option (List McCopy)) (l : List McCopy) → q ≡ Some l → slice_set lists i (l ++ k ∷ []) ≡ push_at lists i k q
appended_is lists i k q l e = grind arith

-- the copy that arrives in an input queue with room
arrives_at_input : (s : State) (c : Chip) (port : Port) → IsInside s.setup.machine c → (k : McCopy) →
    has_room_behind s (input (queue_at s.setup.machine c port)) ≡ true →
    PutIn (mark k (in_queue c port) ∷ []) (marks_of s) (marks_of (push_behind s (input (queue_at s.setup.machine c port)) k))
arrives_at_input s c port inside k room =
    let i : ℕ = queue_at s.setup.machine c port in
    let come : List Mark = mark k (in_queue c port) ∷ [] in
    let there = room_is_there s.setup.capacity (slice_get s.inputs i) room in
    subst (λ (l : List (List McCopy)). PutIn come (marks_of s) (marks_of (record s { inputs = l }))) (appended_is s.inputs i k (slice_get s.inputs i) there.0 there.1)
    (inputs_change (PutIn come) (put_by_parts come) s c port inside there.0 (there.0 ++ k ∷ []) there.1 (back_in (in_queue c port) k there.0))

arrives_at_core : (s : State) (v : ℕ) (k : McCopy) → has_room_behind s (core v) ≡ true →
    PutIn (mark k (at_core v) ∷ []) (marks_of s) (marks_of (push_behind s (core v) k))
arrives_at_core s v k room =
    let come : List Mark = mark k (at_core v) ∷ [] in
    let there = room_is_there s.setup.capacity (slice_get s.cores v) room in
    subst (λ (l : List (List McCopy)). PutIn come (marks_of s) (marks_of (record s { cores = l }))) (appended_is s.cores v k (slice_get s.cores v) there.0 there.1)
    (cores_change (PutIn come) (put_by_parts come) s v there.0 (there.0 ++ k ∷ []) there.1 (back_in (at_core v) k there.0))

-- ---- Inject

-- the chip of a vertex is inside the grid
vertex_inside : (s : State) → IsMesh s → (v : ℕ) (spot : Spot) → slice_get s.setup.spots v ≡ Some spot → IsInside s.setup.machine spot.chip
vertex_inside s mesh v spot is = grind (arith, get_or_from_slice_get s.setup.spots v spot spot is, slice_get_within s.setup.spots v spot is, live_inside, site_parts)

injected : (s : State) → IsMesh s → (v : ℕ) (t : State) → FoundBy s (Inject v) t → MovesOn s t
injected s mesh v t (spot, k, rest, is_spot, is_unsent, room, is) =
    let between : State = record s { unsent = slice_set s.unsent v rest } in
    subst (λ (u : State). MovesOn s u) is (
      record {
        leaves = mark k (unsent v);
        come = mark k (in_queue spot.chip Local) ∷ [];
        rest = marks_of between;
        out = unsent_changes (TakenOut (mark k (unsent v))) (taken_by_parts (mark k (unsent v))) s v (k ∷ rest) rest is_unsent (front_out (unsent v) k rest);
        put = arrives_at_input between spot.chip Local (vertex_inside s mesh v spot is_spot) k room;
        move = (spot, is_spot, refl);
        setup = refl;
      },
      tt,
    )

-- ---- Take

taken : (s : State) (c : Chip) (port : Port) (t : State) → FoundBy s (Take c port) t → MovesOn s t
taken s c port t (k, rest, is_free, is_queue, live, is) =
    let inside : IsInside s.setup.machine c = live_inside s.setup.machine c live in
    let between : State = record s { inputs = slice_set s.inputs (queue_at s.setup.machine c port) rest } in
    let outs = outputs s.setup c port k in
    let come : List Mark = map (λ o. mark k (in_hand c o)) outs in
    let x : Mark = mark k (in_queue c port) in
    subst (λ (u : State). MovesOn s u) is (
      record {
        leaves = x;
        come = come;
        rest = marks_of between;
        out = inputs_change (TakenOut x) (taken_by_parts x) s c port inside (k ∷ rest) rest is_queue (front_out (in_queue c port) k rest);
        put = hands_change (PutIn come) (put_by_parts come) between c inside None (held_for k port outs) is_free (record {
          front = [];
          back = [];
          before_is = refl;
          after_is = hand_marks-held c k port outs ∙ sym (append-nil come);
        });
        move = refl;
        setup = refl;
      },
      tt,
    )

-- ---- Send and Dump

without_out_by : (f : Out → Mark) (o p : Out) (os : List Out) (here : Bool) → out_eq o p ≡ here → (here || list_any (out_eq o) os) ≡ true →
    (list_any (out_eq o) os ≡ true → TakenOut (f o) (map f os) (map f (outs_without o os))) →
    TakenOut (f o) (f p ∷ map f os) (map f (if here then os else p ∷ outs_without o os))
without_out_by f o p os true same has later = grind (arith, out_eq_true o p same)
without_out_by f o p os false other has later = taken_out_after (f o) (f p ∷ []) (map f os) (map f (outs_without o os)) (later has)

-- the mark of an output that is served leaves the hand
without_out : (f : Out → Mark) (o : Out) (os : List Out) → list_any (out_eq o) os ≡ true → TakenOut (f o) (map f os) (map f (outs_without o os))
without_out f o [] has = cc
without_out f o (p ∷ os) has = without_out_by f o p os (out_eq o p) refl has (without_out f o os)

-- a hand serves an output: its mark leaves
hand_serves : (s : State) (c : Chip) (o : Out) (h : Hand) → slice_get s.hands (index_of s.setup.machine c) ≡ Some (Some h) →
    serves s c o (Some (Some h)) ≡ true → TakenOut (mark h.copy (in_hand c o)) (marks_of s) (marks_of (after_serving s c o h))
hand_serves s c o h is_hand serving =
    let x : Mark = mark h.copy (in_hand c o) in
    let parts = and_parts (is_live_chip s.setup.machine c) (list_any (out_eq o) h.outs) serving in
    hands_change (TakenOut x) (taken_by_parts x) s c (live_inside s.setup.machine c parts.0) (Some h) (held_for h.copy h.port (outs_without o h.outs)) is_hand
    (subst (λ (l : List Mark). TakenOut x (hand_marks c (Some h)) l) (sym (hand_marks-held c h.copy h.port (outs_without o h.outs)))
    (without_out (λ q. mark h.copy (in_hand c q)) o h.outs parts.1))

-- a copy that arrives behind an output, and the mark that comes
abbrev Arrives : State → McCopy → Chip → Out → Queue → Type 0
Arrives s k c o to = (come : List Mark) × PutIn come (marks_of s) (marks_of (push_behind s to (onward k))) × Crosses s k c o come

-- a copy arrives at a vertex
arrives_at_vertex : (s : State) (c : Chip) (o : Out) (k : McCopy) → ((d : Dir) → o ≡ Link d → is_live_link s.setup.machine c d ≡ false) →
    (vertex : Option ℕ) → vertex_behind s.setup.spots c o ≡ vertex → has_room_behind s (core_queue_of vertex) ≡ true → Arrives s k c o (core_queue_of vertex)
arrives_at_vertex s c o k dead None none room = cc
arrives_at_vertex s c o k dead (Some v) is_vertex room = grind (arith, mark (onward k) (at_core v), arrives_at_core s v (onward k) room)

-- a copy arrives where a link leads
arrives_by_link : (s : State) (c : Chip) (d : Dir) (k : McCopy) →
    (live : Bool) → is_live_link s.setup.machine c d ≡ live → (far : Option Chip) → far_of s.setup.machine c d ≡ far →
    has_room_behind s (behind_link s.setup c d live far) ≡ true → Arrives s k c (Link d) (behind_link s.setup c d live far)
arrives_by_link s c d k false dead far is_far room = grind (arith, arrives_at_vertex)
arrives_by_link s c d k true live None is_far room = cc
arrives_by_link s c d k true live (Some e) is_far room =
    let port : Port = ByLink (opposite_of d) in
    let inside : IsInside s.setup.machine c = live_inside s.setup.machine c (live_ends s.setup.machine c d live).2 in (
      mark (onward k) (in_queue e port) ∷ [],
      arrives_at_input s e port (far_inside s.setup.machine c e d inside is_far) (onward k) room,
      inl (d, e, refl, live, is_far, refl),
    )

-- a copy arrives behind an output with room
pub arrives : (s : State) (c : Chip) (o : Out) (k : McCopy) → has_room_behind s (behind s.setup c o) ≡ true →
    (come : List Mark) × PutIn come (marks_of s) (marks_of (push_behind s (behind s.setup c o) (onward k))) × Crosses s k c o come
arrives s c (Link d) k room = arrives_by_link s c d k (is_live_link s.setup.machine c d) refl (far_of s.setup.machine c d) refl room
arrives s c (Core p) k room = arrives_at_vertex s c (Core p) k (λ d same. cc) (vertex_behind s.setup.spots c (Core p)) refl room

sent : (s : State) (c : Chip) (o : Out) (t : State) → FoundBy s (Send c o) t → MovesOn s t
sent s c o t (h, is_hand, serving, room, is) =
    let between : State = after_serving s c o h in
    let arrival = arrives between c o h.copy room in
    subst (λ (u : State). MovesOn s u) is (
      record {
        leaves = mark h.copy (in_hand c o);
        come = arrival.0;
        rest = marks_of between;
        out = hand_serves s c o h is_hand serving;
        put = arrival.1;
        move = inr arrival.2;
        setup = (push_behind_leaves between (behind s.setup c o) (onward h.copy)).0;
      },
      tt,
    )

left : (s : State) (c : Chip) (o : Out) (t : State) → FoundBy s (Dump c o) t → MovesOn s t
left s c o t (h, is_hand, serving, is) =
    let between : State = after_serving s c o h in
    let r : DumpRec = record { chip = c; out = o; copy = h.copy } in
    let come : List Mark = mark h.copy (dumped c o) ∷ [] in
    subst (λ (u : State). MovesOn s u) is (
      record {
        leaves = mark h.copy (in_hand c o);
        come = come;
        rest = marks_of between;
        out = hand_serves s c o h is_hand serving;
        put = dumped_changes (PutIn come) (put_by_parts come) between (s.dumped ++ r ∷ []) (made_in (λ (e : DumpRec). mark e.copy (dumped e.chip e.out)) r s.dumped);
        move = inl refl;
        setup = refl;
      },
      tt,
    )

-- ---- Collect

collected : (s : State) (v : ℕ) (t : State) → FoundBy s (Collect v) t → MovesOn s t
collected s v t (k, rest, is_queue, is) =
    let between : State = record s { cores = slice_set s.cores v rest } in
    let x : Mark = mark k (at_core v) in
    let d : Delivery = record { vertex = v; copy = k } in
    let come : List Mark = mark k (delivered v) ∷ [] in
    subst (λ (u : State). MovesOn s u) is (
      record {
        leaves = x;
        come = come;
        rest = marks_of between;
        out = cores_change (TakenOut x) (taken_by_parts x) s v (k ∷ rest) rest is_queue (front_out (at_core v) k rest);
        put = delivered_changes (PutIn come) (put_by_parts come) between (s.delivered ++ d ∷ []) (made_in (λ (e : Delivery). mark e.copy (delivered e.vertex)) d s.delivered);
        move = refl;
        setup = refl;
      },
      tt,
    )

-- Each event that is enabled is one move.
pub event_exchange : (s : State) → IsMesh s → (e : Event) (t : State) → step_of s e ≡ Some t → MovesOn s t
event_exchange s mesh (Inject v) t e = injected s mesh v t (event_found s t (Inject v) e)
event_exchange s mesh (Take c port) t e = taken s c port t (event_found s t (Take c port) e)
event_exchange s mesh (Send c o) t e = sent s c o t (event_found s t (Send c o) e)
event_exchange s mesh (Dump c o) t e = left s c o t (event_found s t (Dump c o) e)
event_exchange s mesh (Collect v) t e = collected s v t (event_found s t (Collect v) e)
