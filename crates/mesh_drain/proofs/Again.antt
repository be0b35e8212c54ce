-- A router looks at a copy's hop number and what its table gives the key alone: so a packet with a key alike goes the same way.
use Rattle.mesh_drain.proofs.Common.{All, All-at, All-cons, All-head, All-tail, All-weaker, AreRoutedAlike, Bool, Chip, Collect, Delivery, DropsNone, Dump, DumpRec, Entry, Event, Hand, HasBrought}
use Rattle.mesh_drain.proofs.Common.{Inject, IsMesh, IsOnward, IsReachedDropless, IsReachedOnward, List, Local, MaySend, McCopy, None, NothingWaits, Option, Out, Port, Queue, Send, Setup, Some, Spot}
use Rattle.mesh_drain.proofs.Common.{State, Take, [], after_event, after_events, after_serving, ap, append-nil, append_assoc, arith, behind, by_send, by_take, cases_Bool, collect_of, cond, core, drop}
use Rattle.mesh_drain.proofs.Common.{drop_at, eq-eqb, eqb-true, get_or, has_room, has_room_behind, if◌then◌else◌, in_hand, index_of, inl, input, inr, is_live_chip, last_hop, length, length-map}
use Rattle.mesh_drain.proofs.Common.{lookup, map, map-append, map-set, nat_lt, nowhere, of_packet, onward, option_map, outputs, outs_of, outs_without, push_at, push_behind, queue_at, refl, send_of}
use Rattle.mesh_drain.proofs.Common.{serves, set, setup_after, slice_get, slice_get-get_or, slice_get-map, slice_index_or, subst, suc, sym, table_at, take_of, unwrap_or, zero, ℕ, ◌&&◌, ◌*◌, ◌++◌, ◌<◌}
use Rattle.mesh_drain.proofs.Common.{◌==◌, ◌∙◌, ◌∷◌, ◌≡◌}
use Rattle.mesh_drain.proofs.{Frame.kept_reached, Frame.onward_drops_none, Frame.sent_dropless, Frame.setup_reached, Packets.after_inject}

-- ---- a mesh whose copies are all of one packet, with its key in place of an alike one, but otherwise as they were

module _ (key : ℕ) (k : McCopy) where
  abbrev renamed : ℕ → ℕ
  renamed n = if n == key then k.key else n

  abbrev numbered : McCopy → McCopy
  numbered x = record { packet = k.packet; key = renamed x.key; payload = k.payload; hop = x.hop }

  in_each : (port : Port) (tables : List (List Entry)) (i : ℕ) → All (λ (table : List Entry). (at : Port) → lookup table key at ≡ lookup table k.key at) tables →
      lookup (slice_index_or tables i []) key port ≡ lookup (slice_index_or tables i []) k.key port
  in_each port [] i all = refl
  in_each port (table ∷ tables) zero all = All-head (λ (l : List Entry). (at : Port) → lookup l key at ≡ lookup l k.key at) table tables all port
  in_each port (table ∷ tables) (suc i) all = in_each port tables i (All-tail (λ (l : List Entry). (at : Port) → lookup l key at ≡ lookup l k.key at) table tables all)

  -- a router gives the other key the same outputs
  same_outputs : (u : Setup) → AreRoutedAlike u key k.key → (c : Chip) (port : Port) (x : McCopy) → outputs u c port (numbered x) ≡ outputs u c port x
  same_outputs u alike c port x =
      let table : List Entry = table_at u.machine u.tables c in
      ap (λ route. if x.hop == last_hop then [] else outs_of route) (elim (cases_Bool (x.key == key)) [
        | inl same ↦
            ap (λ b. lookup table (cond b k.key x.key) port) same
            ∙ (sym (in_each port u.tables (index_of u.machine c) alike) ∙ ap (λ n. lookup table n port) (sym (eqb-true x.key key same)))
        | inr other ↦ ap (λ b. lookup table (cond b k.key x.key) port) other
      ])

  abbrev held : Option Hand → Option Hand
  held h = option_map (λ (x : Hand). record { copy = numbered x.copy; port = x.port; outs = x.outs }) h

  abbrev queues : List (List McCopy) → List (List McCopy)
  queues lists = map (map numbered) lists

  held_for : (x : McCopy) (port : Port) (outs : List Out) → in_hand (numbered x) port outs ≡ held (in_hand x port outs)
  held_for x port outs = grind arith

  module _ (u : Setup) (agree : AreRoutedAlike u key k.key) (unsent : List (List McCopy)) (dumped : List DumpRec) where
    abbrev like : List Delivery → State → State
    like ds s = record { setup = s.setup; unsent = unsent; inputs = queues s.inputs; hands = map held s.hands; cores = queues s.cores; delivered = ds; dumped = dumped }

    chosen : (ds : List Delivery) (s t r : State) (b : Bool) → t ≡ like ds r → unwrap_or (if b then Some t else None) (like ds s) ≡ like ds (unwrap_or (if b then Some r else None) s)
    chosen ds s t r b is = grind arith

    taken : (ds : List Delivery) (s : State) → s.setup ≡ u → (c : Chip) (port : Port) (hand : Option (Option Hand)) (q : Option (List McCopy)) →
        unwrap_or (take_of (like ds s) c port (option_map held hand) (option_map (map numbered) q)) (like ds s) ≡ like ds (unwrap_or (take_of s c port hand q) s)
    taken ds s its c port (Some None) (Some (x ∷ rest)) =
        let i : ℕ = queue_at s.setup.machine c port in
        let j : ℕ = index_of s.setup.machine c in
        let outs : List Out = outputs s.setup c port x in
        let made : List (List McCopy) → List (Option Hand) → State = λ inputs hands. record (like ds s) { inputs = inputs; hands = hands } in
        let other : List Out = outputs s.setup c port (numbered x) in
        let same : other ≡ outs = same_outputs s.setup (subst (λ w. AreRoutedAlike w key k.key) (sym its) agree) c port x in
        chosen ds s (made (set (queues s.inputs) i (map numbered rest)) (set (map held s.hands) j (in_hand (numbered x) port other)))
        (record s { inputs = set s.inputs i rest; hands = set s.hands j (in_hand x port outs) }) (is_live_chip s.setup.machine c)
        (ap (λ l. made l (set (map held s.hands) j (in_hand (numbered x) port other))) (sym (map-set (map numbered) s.inputs i rest))
        ∙ ap (made (queues (set s.inputs i rest)))
        (ap (λ os. set (map held s.hands) j (in_hand (numbered x) port os)) same ∙ (ap (set (map held s.hands) j) (held_for x port outs) ∙ sym (map-set held s.hands j (in_hand x port outs)))))
    taken ds s its c port (Some None) (Some []) = refl
    taken ds s its c port (Some None) None = refl
    taken ds s its c port (Some (Some h)) q = refl
    taken ds s its c port None q = refl

    room : (capacity : ℕ) (q : Option (List McCopy)) → has_room capacity (option_map (map numbered) q) ≡ has_room capacity q
    room capacity q = grind (arith, nat_lt, length-map)

    room_behind : (ds : List Delivery) (s : State) (q : Queue) → has_room_behind (like ds s) q ≡ has_room_behind s q
    room_behind ds s q = grind (arith, slice_get-map, room)

    pushed_at : (lists : List (List McCopy)) (i : ℕ) (x : McCopy) (q : Option (List McCopy)) → push_at (queues lists) i (numbered x) (option_map (map numbered) q) ≡ queues (push_at lists i x q)
    pushed_at lists i x q = grind (arith, map-append, map-set)

    put : (lists : List (List McCopy)) (i : ℕ) (x : McCopy) → push_at (queues lists) i (numbered x) (slice_get (queues lists) i) ≡ queues (push_at lists i x (slice_get lists i))
    put lists i x = ap (push_at (queues lists) i (numbered x)) (slice_get-map (map numbered) lists i) ∙ pushed_at lists i x (slice_get lists i)

    put_behind : (ds : List Delivery) (s : State) (q : Queue) (x : McCopy) → push_behind (like ds s) q (numbered x) ≡ like ds (push_behind s q x)
    put_behind ds s q x = grind (arith, put)

    sent : (ds : List Delivery) (s : State) (c : Chip) (o : Out) (hand : Option (Option Hand)) →
        unwrap_or (send_of (like ds s) c o (option_map held hand)) (like ds s) ≡ like ds (unwrap_or (send_of s c o hand) s)
    sent ds s c o (Some (Some h)) =
        let j : ℕ = index_of s.setup.machine c in
        let q : Queue = behind s.setup c o in
        let left : List Out = outs_without o h.outs in
        let served : State = after_serving s c o h in
        let with_hands : List (Option Hand) → State = λ hands. record (like ds s) { hands = hands } in
        let now : State = with_hands (set (map held s.hands) j (in_hand (numbered h.copy) h.port left)) in
        let now_is : now ≡ like ds served = ap with_hands (ap (set (map held s.hands) j) (held_for h.copy h.port left) ∙ sym (map-set held s.hands j (in_hand h.copy h.port left))) in
        ap (λ b. unwrap_or (if serves s c o (Some (Some h)) && b then Some (push_behind now q (numbered (onward h.copy))) else None) (like ds s)) (room_behind ds s q)
        ∙ chosen ds s (push_behind now q (numbered (onward h.copy))) (push_behind served q (onward h.copy)) (serves s c o (Some (Some h)) && has_room_behind s q)
        (ap (λ t. push_behind t q (numbered (onward h.copy))) now_is ∙ put_behind ds served q (onward h.copy))
    sent ds s c o (Some None) = refl
    sent ds s c o None = refl

    -- what comes by events of packets under way
    abbrev Comes : State → State → (State → State) → Type 0
    Comes s t after = (come : List Delivery) × (t.delivered ≡ s.delivered ++ come) × ((ds : List Delivery) → after (like ds s) ≡ like (ds ++ map (of_packet key k) come) t)

    collected : (s : State) (v : ℕ) (q : Option (List McCopy)) → let t : State = unwrap_or (collect_of s v q) s in
        (come : List Delivery) × (t.delivered ≡ s.delivered ++ come) ×
        ((ds : List Delivery) → unwrap_or (collect_of (like ds s) v (option_map (map numbered) q)) (like ds s) ≡ like (ds ++ map (of_packet key k) come) t)
    collected s v (Some (x ∷ rest)) = (
      record { vertex = v; copy = x } ∷ [],
      refl,
      λ ds. ap (λ l. record (like (ds ++ record { vertex = v; copy = numbered x } ∷ []) s) { cores = l }) (sym (map-set (map numbered) s.cores v rest)),
    )
    collected s v (Some []) = ([], sym (append-nil s.delivered), λ ds. ap (λ l. like l s) (sym (append-nil ds)))
    collected s v None = ([], sym (append-nil s.delivered), λ ds. ap (λ l. like l s) (sym (append-nil ds)))

    none_comes : (s t : State) (after : State → State) → t.delivered ≡ s.delivered → ((ds : List Delivery) → after (like ds s) ≡ like ds t) → Comes s t after
    none_comes s t after same is = ([], same ∙ sym (append-nil s.delivered), λ ds. is ds ∙ ap (λ l. like l t) (sym (append-nil ds)))

    by_event : (s : State) → s.setup ≡ u → (e : Event) → IsOnward e → Comes s (after_event s e) (λ t. after_event t e)
    by_event s its (Inject v) on = absurd on
    by_event s its (Take c port) on =
        let j : ℕ = index_of s.setup.machine c in
        let i : ℕ = queue_at s.setup.machine c port in
        none_comes s (after_event s (Take c port)) (λ t. after_event t (Take c port))
        (by_take (λ t. t.delivered ≡ s.delivered) s refl (λ l h. refl) c port (slice_get s.hands j) (slice_get s.inputs i))
        (λ ds. ap (λ h. unwrap_or (take_of (like ds s) c port h (slice_get (queues s.inputs) i)) (like ds s)) (slice_get-map held s.hands j)
        ∙ (ap (λ q. unwrap_or (take_of (like ds s) c port (option_map held (slice_get s.hands j)) q) (like ds s)) (slice_get-map (map numbered) s.inputs i)
        ∙ taken ds s its c port (slice_get s.hands j) (slice_get s.inputs i)))
    by_event s its (Send c o) on =
        let j : ℕ = index_of s.setup.machine c in
        none_comes s (after_event s (Send c o)) (λ t. after_event t (Send c o))
        (by_send (λ t. t.delivered ≡ s.delivered) s refl (λ h b x. kept_behind (record s { hands = h }) b x) c o (slice_get s.hands j))
        (λ ds. ap (λ h. unwrap_or (send_of (like ds s) c o h) (like ds s)) (slice_get-map held s.hands j) ∙ sent ds s c o (slice_get s.hands j))
      where
        kept_behind : (t : State) (q : Queue) (x : McCopy) → (push_behind t q x).delivered ≡ t.delivered
        kept_behind t (input i) x = refl
        kept_behind t (core v) x = refl
        kept_behind t nowhere x = refl
    by_event s its (Dump c o) on = absurd on
    by_event s its (Collect v) on =
        let made = collected s v (slice_get s.cores v) in
        (made.0, made.1, λ ds. ap (λ q. unwrap_or (collect_of (like ds s) v q) (like ds s)) (slice_get-map (map numbered) s.cores v) ∙ made.2 ds)

    by_events : (s : State) → s.setup ≡ u → (es : List Event) → All IsOnward es → Comes s (after_events s es) (λ t. after_events t es)
    by_events s its [] on = none_comes s s (λ t. t) refl (λ ds. refl)
    by_events s its (e ∷ es) on =
        let first = by_event s its e (All-head IsOnward e es on) in
        let rest = by_events (after_event s e) (setup_after s (e ∷ []) ∙ its) es (All-tail IsOnward e es on) in (
          first.0 ++ rest.0,
          rest.1 ∙ (ap (λ l. l ++ rest.0) first.1 ∙ append_assoc s.delivered first.0 rest.0),
          λ ds. ap (λ t. after_events t es) (first.2 ds)
              ∙ (rest.2 (ds ++ map (of_packet key k) first.0)
              ∙ ap (λ l. like l (after_events (after_event s e) es))
              (append_assoc ds (map (of_packet key k) first.0) (map (of_packet key k) rest.0) ∙ ap (λ l. ds ++ l) (sym (map-append (of_packet key k) first.0 rest.0)))),
        )

-- ---- where nothing waits

all_same : {X : Type 0} (d : X) (xs ys : List X) → All (λ x. x ≡ d) xs → All (λ x. x ≡ d) ys → length xs ≡ length ys → xs ≡ ys
all_same d [] [] a b long = refl
all_same d [] (y ∷ ys) a b long = absurd (omega (arith, long))
all_same d (x ∷ xs) [] a b long = absurd (omega (arith, long))
all_same d (x ∷ xs) (y ∷ ys) a b long =
    ap (λ z. z ∷ xs) (All-head (λ z. z ≡ d) x xs a ∙ sym (All-head (λ z. z ≡ d) y ys b))
    ∙ ap (λ l. y ∷ l) (all_same d xs ys (All-tail (λ z. z ≡ d) x xs a) (All-tail (λ z. z ≡ d) y ys b) (omega (arith, long)))

all_mapped : {X : Type 0} (f : X → X) (d : X) → f d ≡ d → (xs : List X) → All (λ x. x ≡ d) xs → map f xs ≡ xs
all_mapped f d fixed [] all = refl
all_mapped f d fixed (x ∷ xs) all =
    let is : x ≡ d = All-head (λ z. z ≡ d) x xs all in
    ap (λ y. y ∷ map f xs) (ap f is ∙ (fixed ∙ sym is)) ∙ ap (λ l. x ∷ l) (all_mapped f d fixed xs (All-tail (λ z. z ≡ d) x xs all))

-- where nothing waits, and the setup is the same, so are the queues and hands
record IsSameAtRest (key : ℕ) (k : McCopy) (s t : State) : Type 0 where
  inputs : s.inputs ≡ queues key k t.inputs
  hands : s.hands ≡ map (held key k) t.hands
  cores : s.cores ≡ queues key k t.cores

same_at_rest : (key : ℕ) (k : McCopy) (s t : State) → IsMesh s → IsMesh t → NothingWaits s → NothingWaits t → s.setup ≡ t.setup → IsSameAtRest key k s t
same_at_rest key k s t mesh_s mesh_t quiet_s quiet_t same =
    let chips = ap (λ (u : Setup). u.machine.width * u.machine.height) same in
    let spots = ap (λ (u : Setup). length u.spots) same in
    let hs = mesh_s.hand_list in
    let ht = mesh_t.hand_list in
    let cs = mesh_s.core_lists in
    let ct = mesh_t.core_lists in
    record {
      inputs = all_same [] s.inputs t.inputs quiet_s.inputs_empty quiet_t.inputs_empty (mesh_s.input_lists ∙ (ap (λ n. 7 * n) chips ∙ sym mesh_t.input_lists)) ∙ sym
          (all_mapped (map (numbered key k)) [] refl t.inputs quiet_t.inputs_empty);
      hands = all_same None s.hands t.hands quiet_s.hands_empty quiet_t.hands_empty (hs ∙ (chips ∙ sym ht)) ∙ sym (all_mapped (held key k) None refl t.hands quiet_t.hands_empty);
      cores = all_same [] s.cores t.cores quiet_s.cores_empty quiet_t.cores_empty (cs ∙ (spots ∙ sym ct)) ∙ sym (all_mapped (map (numbered key k)) [] refl t.cores quiet_t.cores_empty);
    }

-- ---- another packet with a key alike

module _ (s t : State) (v : ℕ) (k : McCopy) (rest : List McCopy) (may : MaySend s) (there : v < length s.setup.spots) (first : slice_get s.unsent v ≡ Some (k ∷ rest))
    (on : IsReachedOnward (after_event s (Inject v)) t) (quiet : NothingWaits t) where
  abbrev spot : Spot
  spot = get_or s.setup.spots v (record { chip = record { x = 0; y = 0 }; core = 0 })

  stands : slice_get s.setup.spots v ≡ Some spot
  stands = slice_get-get_or s.setup.spots v (record { chip = record { x = 0; y = 0 }; core = 0 }) there

  abbrev sent_from : Setup → List (List McCopy) → List (List McCopy) → McCopy → State → State
  sent_from u unsent inputs x r = record {
    setup = u;
    unsent = unsent;
    inputs = set inputs (queue_at u.machine spot.chip Local) (x ∷ []);
    hands = r.hands;
    cores = r.cores;
    delivered = r.delivered;
    dumped = r.dumped;
  }

  begun : after_event s (Inject v) ≡ sent_from s.setup (set s.unsent v rest) s.inputs k s
  begun = after_inject s may.kept may.quiet v spot k rest stands first

  begun_setup : (after_event s (Inject v)).setup ≡ s.setup
  begun_setup = setup_after s (Inject v ∷ [])

  dropless : IsReachedDropless s t
  dropless = sent_dropless s t v on

  -- what came
  abbrev come : List Delivery
  come = drop (length s.delivered) t.delivered

  here : (l : List Delivery) → (after_events (after_event s (Inject v)) on.events).delivered ≡ (after_event s (Inject v)).delivered ++ l → t.delivered ≡ s.delivered ++ l
  here l is = ap (λ (a : State). a.delivered) on.is ∙ (is ∙ ap (λ (a : State). a.delivered ++ l) begun)

  is_come : (l : List Delivery) → (after_events (after_event s (Inject v)) on.events).delivered ≡ (after_event s (Inject v)).delivered ++ l → l ≡ come
  is_come l is = sym (ap (drop (length s.delivered)) (here l is) ∙ drop_at s.delivered l (length s.delivered) refl)

  module _ (r : State) (x : McCopy) (left : List McCopy) (may_r : MaySend r) (same : r.setup ≡ s.setup)
      (first_r : slice_get r.unsent v ≡ Some (x ∷ left)) (agree : AreRoutedAlike s.setup k.key x.key) where
    abbrev unsent : List (List McCopy)
    unsent = set r.unsent v left

    abbrev alike : List Delivery → State → State
    alike ds a = like k.key x s.setup agree unsent r.dumped ds a

    hop : x.hop ≡ k.hop
    hop =
        All-head (λ (y : McCopy). y.hop ≡ 0) x left (All-at (λ q. All (λ (y : McCopy). y.hop ≡ 0) q) r.unsent v (x ∷ left) may_r.kept.mesh.unsent_at_start first_r)
        ∙ sym (All-head (λ (y : McCopy). y.hop ≡ 0) k rest (All-at (λ q. All (λ (y : McCopy). y.hop ≡ 0) q) s.unsent v (k ∷ rest) may.kept.mesh.unsent_at_start first))

    is_numbered : x ≡ numbered k.key x k
    is_numbered = grind (arith, hop, eq-eqb k.key k.key refl)

    -- after it was sent it stands where the first one stood
    begins : after_event r (Inject v) ≡ alike r.delivered (after_event s (Inject v))
    begins = grind (arith, same_at_rest, is_numbered, map-set, begun, after_inject, stands)

    -- at the end all is as before it was sent
    ends : (ds : List Delivery) → alike ds t ≡ record r { unsent = unsent; delivered = ds }
    ends ds =
        let setup : t.setup ≡ r.setup = setup_reached s t dropless ∙ sym same in
        let at : IsSameAtRest k.key x r t = same_at_rest k.key x r t may_r.kept.mesh (kept_reached s t may.kept dropless).mesh may_r.quiet quiet (sym setup) in
        let made : Setup → List (List McCopy) → List (Option Hand) → List (List McCopy) → State =
        λ u inputs hands cores. record { setup = u; unsent = unsent; inputs = inputs; hands = hands; cores = cores; delivered = ds; dumped = r.dumped } in
        ap (λ u. made u (queues k.key x t.inputs) (map (held k.key x) t.hands) (queues k.key x t.cores)) setup
        ∙ (ap (λ l. made r.setup l (map (held k.key x) t.hands) (queues k.key x t.cores)) (sym at.inputs)
        ∙ (ap (λ l. made r.setup r.inputs l (queues k.key x t.cores)) (sym at.hands)
        ∙ ap (made r.setup r.inputs r.hands) (sym at.cores)))

    always : IsReachedDropless r (record r { unsent = unsent; delivered = r.delivered ++ map (of_packet k.key x) come })
    always =
        let comes = by_events k.key x s.setup agree unsent r.dumped (after_event s (Inject v)) begun_setup on.events on.onward in
        record {
          events = Inject v ∷ on.events;
          dropless = All-cons DropsNone (Inject v) on.events tt (All-weaker IsOnward DropsNone onward_drops_none on.events on.onward);
          is = sym (ap (λ a. after_events a on.events) begins
              ∙ (comes.2 r.delivered
              ∙ (ap (alike (r.delivered ++ map (of_packet k.key x) comes.0)) (sym on.is)
              ∙ (ap (λ l. alike (r.delivered ++ map (of_packet k.key x) l) t) (is_come comes.0 comes.1)
              ∙ ends (r.delivered ++ map (of_packet k.key x) come)))));
        }

  pub brought : HasBrought s t v k.key
  brought =
      let comes = by_events k.key k s.setup (λ i d within port. refl) [] [] (after_event s (Inject v)) begun_setup on.events on.onward in
      record {
        come = come;
        is = here comes.0 comes.1 ∙ ap (λ l. s.delivered ++ l) (is_come comes.0 comes.1);
        always = λ r x left may_r same first_r agree. always r x left may_r same first_r agree;
      }
