-- What each event of the packet under way does.
use Rattle.mesh_drain.proofs.Common.{All, All-append, All-at, All-cons, All-head, All-left, All-nil, All-right, All-tail, Bool, ByLink, Chip, Collect, Contains, Core, Description, Dir, Event}
use Rattle.mesh_drain.proofs.Common.{FreeBehind, Hand, IsInside, IsLiveChip, IsServing, Link, List, Local, McCopy, MeetsSomeLedger, None, Option, Out, Port, Queue, Send, Setup, Some, State, Take}
use Rattle.mesh_drain.proofs.Common.{Waiting, WaitsAlone, [], after_event, after_serving, among_contains, and_from, ap, arith, behind, behind_link, collect_of, core, core_queue_of, count_by-append}
use Rattle.mesh_drain.proofs.Common.{count_by-cons, eqb-true, event_keeps, false, far_of, far_port, free_behind, get_or-set_other, get_or-set_same, get_or_from_slice_get, has_room, has_room_behind}
use Rattle.mesh_drain.proofs.Common.{held_at, held_mark, if◌then◌else◌, in_hand, index_below, index_of, inl, input, input_is_somewhere, is_live_link, length, list_any, live_ends, live_inside, lt-ltb}
use Rattle.mesh_drain.proofs.Common.{mark, marks_of, nat_eq_same, nat_lt, next_place, nowhere, onward, opposite_of, out_eq, out_eq_same, outputs, outs_in, outs_without, push_at, push_behind, queue_at}
use Rattle.mesh_drain.proofs.Common.{queue_at-below, queue_of, refl, send_of, serves, set, set-slice_get, set_put_back, slice_get, slice_get-get_or, slice_get-set_same, slice_index_or, slice_set}
use Rattle.mesh_drain.proofs.Common.{step_of, subst, suc, sym, take_of, times, true, unwrap_or, vertex_behind, weight_in, zero, ℕ, ◌&&◌, ◌++◌, ◌+◌, ◌<◌, ◌==◌, ◌||◌, ◌∙◌, ◌∷◌, ◌≡◌, ◌≢◌, ◌≤◌}
use Rattle.mesh_drain.proofs.Progress.{moved_lighter}

-- ---- lists

-- a list that is written twice at a place
pub set_twice : {X : Type 0} (xs : List X) (i : ℕ) (x y : X) → set (set xs i x) i y ≡ set xs i y
set_twice [] i x y = refl
set_twice (z ∷ zs) zero x y = refl
set_twice (z ∷ zs) (suc i) x y = ap (λ l. z ∷ l) (set_twice zs i x y)

-- what is true of what is written, and of what was there, is true of a list that was written
pub written : (P : List McCopy → Type 0) (lists : List (List McCopy)) (i j : ℕ) (q : List McCopy) → i < length lists →
    (i ≡ j → P q) → (i ≢ j → P (slice_index_or lists j [])) → P (slice_index_or (set lists i q) j [])
written P lists i j q within at apart = by_test (i == j) refl
  where
    by_test : (b : Bool) → (i == j) ≡ b → P (slice_index_or (set lists i q) j [])
    by_test true e =
        let same : i ≡ j = eqb-true i j e in
        subst (λ n. P (slice_index_or (set lists i q) n [])) same (subst P (sym (get_or-set_same lists i q [] within)) (at same))
    by_test false e =
        let other : i ≢ j = λ same. differ (ap (λ n. i == n) (sym same) ∙ nat_eq_same i) e in
        subst P (sym (get_or-set_other lists i j q [] (λ same. other (sym same)))) (apart other)
      where
        differ : i == j ≡ true → i == j ≡ false → ⊥
        differ a b = cc

-- one place more in the list of those where the packet waits
pub times_more : (m : Description) (i : ℕ) (w : List Waiting) (a : Waiting) →
    times m i (w ++ a ∷ []) ≡ times m i w + (if queue_at m a.chip a.port == i then 1 else 0)
times_more m i w a = grind (arith, i, m, count_by-append, count_by-cons)

-- ---- the ledger goes with it

pub kept_after : (s : State) (e : Event) → MeetsSomeLedger s → MeetsSomeLedger (after_event s e)
kept_after s e kept = grind (arith, event_keeps s kept.nets kept.labels kept.mesh kept.right kept.ledger e)

pub moved : (s t : State) (e : Event) → step_of s e ≡ Some t → after_event s e ≡ t
moved s t e is = ap (λ (o : Option State). unwrap_or o s) is

-- ---- a mesh with a packet under way

module _ (s : State) (waiting : List Waiting) where
  m : Description
  m = s.setup.machine

  -- the queue of a port of a live chip is there
  pub queue_there : MeetsSomeLedger s → (c : Chip) (port : Port) → IsLiveChip s.setup.machine c →
      (queue_at s.setup.machine c port < length s.inputs) × (slice_get s.inputs (queue_at s.setup.machine c port) ≡ Some (slice_index_or s.inputs (queue_at s.setup.machine c port) []))
  queue_there kept c port live =
      grind (arith, queue_at-below s.setup.machine c port (live_inside s.setup.machine c live), live_inside s.setup.machine c live, slice_get-get_or s.inputs (queue_at s.setup.machine c port))

-- ---- Take

module _ (s : State) (w : List Waiting) (a : Waiting) (u : WaitsAlone s (w ++ a ∷ [])) where
  i : ℕ
  i = queue_at s.setup.machine a.chip a.port

  queue : List McCopy
  queue = slice_index_or s.inputs (queue_at s.setup.machine a.chip a.port) []

  live_before : All (λ (x : Waiting). IsLiveChip s.setup.machine x.chip) w
  live_before = All-left (λ (x : Waiting). IsLiveChip s.setup.machine x.chip) w (a ∷ []) u.live

  pub live_here : IsLiveChip s.setup.machine a.chip
  live_here =
      All-head (λ (x : Waiting). IsLiveChip s.setup.machine x.chip) a []
      (All-right (λ (x : Waiting). IsLiveChip s.setup.machine x.chip) w (a ∷ []) u.live)

  inside_here : IsInside s.setup.machine a.chip
  inside_here = live_inside s.setup.machine a.chip live_here

  hand_within : index_of s.setup.machine a.chip < length s.hands
  hand_within = let below = index_below s.setup.machine a.chip inside_here in let long = u.kept.mesh.hand_list in omega (arith, below, long)

  hand_free : slice_get s.hands (index_of s.setup.machine a.chip) ≡ Some None
  hand_free =
      let there = slice_get-get_or s.hands (index_of s.setup.machine a.chip) None hand_within in
      there ∙ ap Some (All-at (λ (h : Option Hand). h ≡ None) s.hands (index_of s.setup.machine a.chip) (slice_index_or s.hands (index_of s.setup.machine a.chip) None) u.free there)

  there : (i < length s.inputs) × (slice_get s.inputs i ≡ Some queue)
  unfolding i queue
  there = queue_there s w u.kept a.chip a.port live_here

  -- each other queue stands in the list as often as before
  listed_else : (j : ℕ) → i ≢ j → length (slice_index_or s.inputs j []) ≤ times s.setup.machine j w
  unfolding i
  listed_else j other = by_test (queue_at s.setup.machine a.chip a.port == j) refl
    where
      by_test : (b : Bool) → (queue_at s.setup.machine a.chip a.port == j) ≡ b → length (slice_index_or s.inputs j []) ≤ times s.setup.machine j w
      by_test true e = absurd (other (eqb-true (queue_at s.setup.machine a.chip a.port) j e))
      by_test false e =
          let more = times_more s.setup.machine j w a ∙ ap (λ b. times s.setup.machine j w + (if b then 1 else 0)) e in
          omega (arith, u.listed j, more)

  -- this one once less
  listed_here : length queue ≤ times s.setup.machine i w + 1
  unfolding i queue
  listed_here = grind (arith, times_more s.setup.machine (queue_at s.setup.machine a.chip a.port) w a, nat_eq_same (queue_at s.setup.machine a.chip a.port))

  -- what the hand holds that was just made
  outs_in-hand : (k : McCopy) (os : List Out) → outs_in (Some (in_hand k a.port os)) ≡ os
  outs_in-hand k [] = refl
  outs_in-hand k (o ∷ os) = refl

  Served : State → Type 0
  Served t = IsServing t w a.chip (outs_in (slice_get t.hands (index_of t.setup.machine a.chip)))

  -- nothing waits there: nothing is taken
  take_none : queue ≡ [] → Served (after_event s (Take a.chip a.port))
  unfolding Served i queue
  take_none empty =
      let none : step_of s (Take a.chip a.port) ≡ None =
      ap (λ h. take_of s a.chip a.port h (slice_get s.inputs (queue_at s.setup.machine a.chip a.port))) hand_free
      ∙ ap (take_of s a.chip a.port (Some None)) (there.1 ∙ ap Some empty) in
      let same : after_event s (Take a.chip a.port) ≡ s = ap (λ (o : Option State). unwrap_or o s) none in
      let outs : outs_in (slice_get s.hands (index_of s.setup.machine a.chip)) ≡ [] = ap outs_in hand_free in
      subst (λ t. IsServing t w a.chip (outs_in (slice_get t.hands (index_of t.setup.machine a.chip)))) (sym same)
      (subst (λ os. IsServing s w a.chip os) (sym outs) (record {
        kept = u.kept;
        copy = record { packet = u.packet; key = 0; payload = None; hop = 0 };
        port = Local;
        others = s.hands;
        free = u.free;
        within = hand_within;
        hand = sym (set-slice_get s.hands (index_of s.setup.machine a.chip) None hand_free);
        here = live_here;
        collected = u.collected;
        live = live_before;
        listed = λ j. by_place j;
        of_packet = u.of_packet;
      }))
    where
      by_place : (j : ℕ) → length (slice_index_or s.inputs j []) ≤ times s.setup.machine j w
      by_place j = by_test (i == j) refl
        where
          by_test : (b : Bool) → (i == j) ≡ b → length (slice_index_or s.inputs j []) ≤ times s.setup.machine j w
          by_test true e =
              subst (λ n. length (slice_index_or s.inputs n []) ≤ times s.setup.machine n w) (eqb-true i j e)
              (let long : length (slice_index_or s.inputs i []) ≡ 0 = ap length empty in omega (arith, long))
          by_test false e = listed_else j (λ same. differ (ap (λ n. i == n) (sym same) ∙ nat_eq_same i) e)
            where
              differ : i == j ≡ true → i == j ≡ false → ⊥
              differ x y = cc

  -- a copy waits there: the router takes it
  take_some : (k : McCopy) (rest : List McCopy) → queue ≡ k ∷ rest → Served (after_event s (Take a.chip a.port))
  unfolding Served i queue
  take_some k rest full =
      let os : List Out = outputs s.setup a.chip a.port k in
      let n : ℕ = index_of s.setup.machine a.chip in
      let j : ℕ = queue_at s.setup.machine a.chip a.port in
      let t : State = record s { inputs = slice_set s.inputs j rest; hands = slice_set s.hands n (in_hand k a.port os) } in
      let step : step_of s (Take a.chip a.port) ≡ Some t =
      ap (λ h. take_of s a.chip a.port h (slice_get s.inputs j)) hand_free
      ∙ (ap (take_of s a.chip a.port (Some None)) (there.1 ∙ ap Some full)
      ∙ ap (λ b. if b then Some t else None) live_here) in
      let is : after_event s (Take a.chip a.port) ≡ t = moved s t (Take a.chip a.port) step in
      let outs : outs_in (slice_get t.hands n) ≡ os = ap outs_in (slice_get-set_same s.hands n None (in_hand k a.port os) hand_free) ∙ outs_in-hand k os in
      let all : All (λ (x : McCopy). x.packet ≡ u.packet) (k ∷ rest) = subst (All (λ (x : McCopy). x.packet ≡ u.packet)) full (u.of_packet j) in
      let packet : k.packet ≡ u.packet = All-head (λ (x : McCopy). x.packet ≡ u.packet) k rest all in
      subst (λ x. IsServing x w a.chip (outs_in (slice_get x.hands (index_of x.setup.machine a.chip)))) (sym is)
      (subst (λ l. IsServing t w a.chip l) (sym outs) (record {
        kept = subst MeetsSomeLedger is (kept_after s (Take a.chip a.port) u.kept);
        copy = k;
        port = a.port;
        others = s.hands;
        free = u.free;
        within = hand_within;
        hand = refl;
        here = live_here;
        collected = u.collected;
        live = live_before;
        listed = λ x. written (λ q. length q ≤ times s.setup.machine x w) s.inputs j x rest there.0
            (λ same. let most = listed_here in let long : length queue ≡ length rest + 1 = ap length full ∙ plus (length rest) in
            subst (λ y. length rest ≤ times s.setup.machine y w) same (omega (arith, most, long)))
            (listed_else x);
        of_packet = λ x. subst (λ p. All (λ (y : McCopy). y.packet ≡ p) (slice_index_or (set s.inputs j rest) x [])) (sym packet)
            (written (All (λ (y : McCopy). y.packet ≡ u.packet)) s.inputs j x rest there.0
            (λ same. All-tail (λ (y : McCopy). y.packet ≡ u.packet) k rest all) (λ other. u.of_packet x));
      }))
    where
      plus : (n : ℕ) → suc n ≡ n + 1
      plus n = omega arith

  pub take_step : IsServing (after_event s (Take a.chip a.port)) w a.chip
      (outs_in (slice_get (after_event s (Take a.chip a.port)).hands (index_of (after_event s (Take a.chip a.port)).setup.machine a.chip)))
  unfolding Served i queue
  take_step = by_queue (slice_index_or s.inputs (queue_at s.setup.machine a.chip a.port) []) refl
    where
      by_queue : (q : List McCopy) → slice_index_or s.inputs (queue_at s.setup.machine a.chip a.port) [] ≡ q → Served (after_event s (Take a.chip a.port))
      by_queue [] e = take_none e
      by_queue (k ∷ rest) e = take_some k rest e

-- ---- Send

module _ (s : State) (w : List Waiting) (c : Chip) (o : Out) (os : List Out) (u : IsServing s w c (o ∷ os)) where
  held : Hand
  held = record { copy = u.copy; port = u.port; outs = o ∷ os }

  place : ℕ
  place = index_of s.setup.machine c

  pub inside_c : IsInside s.setup.machine c
  inside_c = live_inside s.setup.machine c u.here

  hand_is : slice_get s.hands (index_of s.setup.machine c) ≡ Some (Some held)
  unfolding held
  hand_is =
      ap (λ (l : List (Option Hand)). slice_get l (index_of s.setup.machine c)) u.hand
      ∙ slice_get-set_same u.others (index_of s.setup.machine c) (slice_index_or u.others (index_of s.setup.machine c) None) (Some held)
      (slice_get-get_or u.others (index_of s.setup.machine c) None u.within)

  pub has_mark : Contains (marks_of s) (mark u.copy (held_at c o))
  unfolding held
  has_mark = among_contains (mark u.copy (held_at c o)) (marks_of s) (held_mark s c o inside_c held hand_is (inl refl))

  asked : serves s c o (Some (Some held)) ≡ true
  unfolding held
  asked = and_from _ _ u.here (ap (λ b. b || list_any (out_eq o) os) (out_eq_same o))

  room : nat_lt 0 s.setup.capacity ≡ true
  room = lt-ltb 0 s.setup.capacity u.kept.mesh.room

  -- the hands, once the output was served
  hands_then : slice_set s.hands (index_of s.setup.machine c) (in_hand u.copy u.port (outs_without o (o ∷ os))) ≡ slice_set u.others (index_of s.setup.machine c) (in_hand u.copy u.port os)
  hands_then = grind (arith, set_twice u.others (index_of s.setup.machine c) (in_hand u.copy u.port (o ∷ os)) (in_hand u.copy u.port (outs_without o (o ∷ os))), out_eq_same o)

  -- the copy goes to the queue behind the output
  send_to : (b : Queue) → behind s.setup c o ≡ b → has_room_behind s b ≡ true →
      step_of s (Send c o) ≡ Some (push_behind (after_serving s c o held) b (onward u.copy))
  unfolding held
  send_to b is has =
      ap (send_of s c o) hand_is
      ∙ (ap (λ x. if serves s c o (Some (Some held)) && has_room_behind s x then Some (push_behind (after_serving s c o held) x (onward u.copy)) else None) is
      ∙ ap (λ t. if t then Some (push_behind (after_serving s c o held) b (onward u.copy)) else None) (and_from _ _ asked has))

  -- the queue behind the output, which has no copy of the packet
  free : FreeBehind s c o u.copy.packet
  free = free_behind s u.kept.nets u.kept.labels u.kept.ledger u.kept.mesh c o u.copy has_mark

  -- a queue all of whose copies are of the packet, and none, is empty
  none_of : (q : List McCopy) → All (λ (k : McCopy). k.packet ≢ u.copy.packet) q → All (λ (k : McCopy). k.packet ≡ u.copy.packet) q → q ≡ []
  none_of [] other same = refl
  none_of (k ∷ q) other same = absurd (All-head (λ (x : McCopy). x.packet ≢ u.copy.packet) k q other (All-head (λ (x : McCopy). x.packet ≡ u.copy.packet) k q same))

-- an output is served behind which there is no queue: that never is
pub send_nowhere : (s : State) (w : List Waiting) (c : Chip) (o : Out) (os : List Out) → IsServing s w c (o ∷ os) → behind s.setup c o ≡ nowhere → ⊥
send_nowhere s w c o os u is = none_some (free s w c o os u).0 (sym (ap (queue_of s) is) ∙ (free s w c o os u).1)
  where
    none_some : (q : List McCopy) → None ≡ Some q → ⊥
    none_some q e = cc

-- an output behind which there is an input queue is a live link, and the queue is at its far end
pub record IsFar (u : Setup) (c : Chip) (o : Out) (i : ℕ) : Type 0 where
  pub link : Dir
  pub out : o ≡ Link link
  pub far : Chip
  pub leads : far_of u.machine c link ≡ Some far
  pub live : IsLiveChip u.machine far
  pub place : queue_at u.machine far (ByLink (opposite_of link)) ≡ i

pub far_behind : (u : Setup) (c : Chip) (o : Out) (i : ℕ) → behind u c o ≡ input i → IsFar u c o i
far_behind u c o i is = by_output o refl
  where
    no_core : (v : Option ℕ) → core_queue_of v ≡ input i → ⊥
    no_core (Some v) e = cc
    no_core None e = cc

    by_link : (d : Dir) → o ≡ Link d → (live : Bool) → is_live_link u.machine c d ≡ live → (far : Option Chip) → far_of u.machine c d ≡ far → behind_link u c d live far ≡ input i → IsFar u c o i
    by_link d out true live (Some e) leads there =
        let place : queue_at u.machine e (ByLink (opposite_of d)) ≡ i = cc in
        let ends = live_ends u.machine c d live in
        let same : ends.0 ≡ e = let both : Some ends.0 ≡ Some e = sym ends.1 ∙ leads in cc in
        record { link = d; out = out; far = e; leads = leads; live = subst (IsLiveChip u.machine) same ends.3; place = place }
    by_link d out true live None leads there = absurd (input_is_somewhere (sym there))
    by_link d out false live far leads there = absurd (no_core (vertex_behind u.spots c (Link d)) there)

    by_output : (p : Out) → o ≡ p → IsFar u c o i
    by_output (Link d) out = by_link d out (is_live_link u.machine c d) refl (far_of u.machine c d) refl (sym (ap (behind u c) out) ∙ is)
    by_output (Core p) out = absurd (no_core (vertex_behind u.spots c (Core p)) (sym (ap (behind u c) out) ∙ is))

-- a live link is served: the packet waits at the far end then
module _ (s : State) (w : List Waiting) (c : Chip) (o : Out) (os : List Out) (u : IsServing s w c (o ∷ os)) (i : ℕ) (is : behind s.setup c o ≡ input i) where
  pub far : IsFar s.setup c o i
  far = far_behind s.setup c o i is

  abbrev pub next : Waiting
  next = record { chip = far.far; port = ByLink (opposite_of far.link) }

  pub next_is : next_place s.setup.machine c o ≡ Some next
  next_is = ap (next_place s.setup.machine c) far.out ∙ ap (far_port far.link) far.leads

  linked : State
  linked = record s { inputs = slice_set s.inputs i (onward u.copy ∷ []); hands = slice_set u.others (index_of s.setup.machine c) (in_hand u.copy u.port os) }

  far_there : i < length s.inputs
  far_there = subst (λ n. n < length s.inputs) far.place (queue_there s w u.kept far.far (ByLink (opposite_of far.link)) far.live).0

  far_empty : slice_get s.inputs i ≡ Some []
  far_empty =
      let q = free s w c o os u in
      let at : slice_get s.inputs i ≡ Some q.0 = sym (ap (queue_of s) is) ∙ q.1 in
      at ∙ ap Some (none_of s w c o os u q.0 q.2 (subst (All (λ (k : McCopy). k.packet ≡ u.copy.packet)) (get_or_from_slice_get s.inputs i q.0 [] at) (u.of_packet i)))

  is_linked : step_of s (Send c o) ≡ Some linked
  unfolding held linked
  is_linked =
      let n : ℕ = index_of s.setup.machine c in
      let has : has_room_behind s (input i) ≡ true = ap (has_room s.setup.capacity) far_empty ∙ room s w c o os u in
      let from : List (Option Hand) → State = λ hands. record s { inputs = push_at s.inputs i (onward u.copy) (slice_get s.inputs i); hands = hands } in
      send_to s w c o os u (input i) is has
      ∙ (ap (λ h. Some (from h)) (hands_then s w c o os u)
      ∙ ap (λ q. Some (record s { inputs = push_at s.inputs i (onward u.copy) q; hands = slice_set u.others n (in_hand u.copy u.port os) })) far_empty)

  pub send_link_lighter : weight_in (after_event s (Send c o)) < weight_in s
  send_link_lighter =
      let same : weight_in (after_event s (Send c o)) ≡ weight_in linked = ap weight_in (moved s linked (Send c o) is_linked) in
      omega (arith, moved_lighter s linked (Send c o) u.kept.mesh is_linked, same)

  pub send_link : IsServing (after_event s (Send c o)) (w ++ next ∷ []) c os
  unfolding linked
  send_link =
      let Live : Waiting → Type 0 = λ x. IsLiveChip s.setup.machine x.chip in
      let Of : McCopy → Type 0 = λ k. k.packet ≡ u.copy.packet in
      let same : after_event s (Send c o) ≡ linked = moved s linked (Send c o) is_linked in
      subst (λ x. IsServing x (w ++ next ∷ []) c os) (sym same) (record {
        kept = subst MeetsSomeLedger same (kept_after s (Send c o) u.kept);
        copy = u.copy;
        port = u.port;
        others = u.others;
        free = u.free;
        within = u.within;
        hand = refl;
        here = u.here;
        collected = u.collected;
        live = All-append Live w (next ∷ []) u.live (All-cons Live next [] far.live (All-nil Live));
        listed = λ x. written (λ q. length q ≤ times s.setup.machine x (w ++ next ∷ [])) s.inputs i x (onward u.copy ∷ []) far_there
            (λ here. let more = times_more s.setup.machine x w next
            ∙ ap (λ y. times s.setup.machine x w + (if y then 1 else 0)) (ap (λ y. y == x) (far.place ∙ here) ∙ nat_eq_same x) in omega (arith, more))
            (λ other. let most = u.listed x in let more = times_more s.setup.machine x w next in omega (arith, most, more));
        of_packet = λ x. written (All Of) s.inputs i x (onward u.copy ∷ []) far_there
            (λ here. All-cons Of (onward u.copy) [] refl (All-nil Of))
            (λ other. u.of_packet x);
      })

-- an output that leads to a vertex is served, and the vertex takes the copy
module _ (s : State) (w : List Waiting) (c : Chip) (o : Out) (os : List Out) (u : IsServing s w c (o ∷ os)) (v : ℕ) (is : behind s.setup c o ≡ core v) where
  core_empty : slice_get s.cores v ≡ Some []
  core_empty =
      let q = free s w c o os u in
      let at : slice_get s.cores v ≡ Some q.0 = sym (ap (queue_of s) is) ∙ q.1 in
      at ∙ ap Some (All-at (λ (l : List McCopy). l ≡ []) s.cores v q.0 u.collected at)

  pub send_core : IsServing (after_event (after_event s (Send c o)) (Collect v)) w c os
  unfolding held
  send_core =
      let n : ℕ = index_of s.setup.machine c in
      let at : slice_get s.cores v ≡ Some [] = core_empty in
      let has : has_room_behind s (core v) ≡ true = ap (has_room s.setup.capacity) at ∙ room s w c o os u in
      let hands : List (Option Hand) = slice_set u.others n (in_hand u.copy u.port os) in
      let k : McCopy = onward u.copy in
      let t : State = record s { cores = slice_set s.cores v (k ∷ []); hands = hands } in
      let from : List (Option Hand) → State = λ l. record s { cores = push_at s.cores v k (slice_get s.cores v); hands = l } in
      let step : step_of s (Send c o) ≡ Some t =
      send_to s w c o os u (core v) is has
      ∙ (ap (λ h. Some (from h)) (hands_then s w c o os u)
      ∙ ap (λ q. Some (record s { cores = push_at s.cores v k q; hands = hands })) at) in
      let same : after_event s (Send c o) ≡ t = moved s t (Send c o) step in
      let end : State = record s { hands = hands; delivered = s.delivered ++ record { vertex = v; copy = k } ∷ [] } in
      let back : set (set s.cores v (k ∷ [])) v [] ≡ s.cores = set_put_back s.cores v [] (k ∷ []) at in
      let take : step_of t (Collect v) ≡ Some end =
      ap (collect_of t v) (slice_get-set_same s.cores v [] (k ∷ []) at)
      ∙ ap (λ l. Some (record end { cores = l })) back in
      let last : after_event (after_event s (Send c o)) (Collect v) ≡ end = ap (λ x. after_event x (Collect v)) same ∙ moved t end (Collect v) take in
      subst (λ x. IsServing x w c os) (sym last) (record {
        kept = subst MeetsSomeLedger last (kept_after (after_event s (Send c o)) (Collect v) (kept_after s (Send c o) u.kept));
        copy = u.copy;
        port = u.port;
        others = u.others;
        free = u.free;
        within = u.within;
        hand = refl;
        here = u.here;
        collected = u.collected;
        live = u.live;
        listed = u.listed;
        of_packet = u.of_packet;
      })
