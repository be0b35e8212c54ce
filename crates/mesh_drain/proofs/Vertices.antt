-- No copy is dropped at an output that leads to a vertex, where none waits for one.
use Rattle.mesh_drain.proofs.Common.{All, All-append, All-at, All-cons, All-nil, AreCollected, Bool, Chip, Collect, Core, Dir, DropsAtNoVertex, Dump, DumpRec, Event, Hand, Idle, Inject, IsMesh}
use Rattle.mesh_drain.proofs.Common.{IsSameBesidesCores, LeadsToNoVertex, Link, List, McCopy, None, NothingWaits, Option, Out, Port, Queue, Send, SendsNone, Setup, Some, State, Take, [], after_event}
use Rattle.mesh_drain.proofs.Common.{after_event_setup, after_serving, answer, ap, append-nil, append_assoc, arith, behind, behind_link, by_collect, by_dump, by_take, cases_order, collect_of}
use Rattle.mesh_drain.proofs.Common.{collected_from, core, core_is_somewhere, core_queue_of, dump_of, dumped_stays, false, far_of, get_or, get_or_default, get_or_past, has_room, has_room_behind}
use Rattle.mesh_drain.proofs.Common.{if◌then◌else◌, index_of, input, input_is_no_core, is_live_link, length, lt-ltb, not, nowhere, push_at, push_behind, refl, same_core, serves, set, set_put_back}
use Rattle.mesh_drain.proofs.Common.{slice_get, slice_get-get_or, slice_get-set_same, slice_get_within, subst, sym, true, unwrap_or, vertex_behind, vertex_behind_stands, ℕ, ◌&&◌, ◌++◌, ◌+◌, ◌<◌, ◌∙◌}
use Rattle.mesh_drain.proofs.Common.{◌∷◌, ◌≡◌, ◌≤◌}
use Rattle.std.proofs.Math.Seq.{set-get_or}
use Rattle.mesh_drain.proofs.{Steps.set_twice, Turns.one_vertex_more}

-- ---- one after the other

pub drops_none : (s t : State) → t.dumped ≡ s.dumped → DropsAtNoVertex s t
drops_none s t same = record { come = []; is = same ∙ sym (append-nil s.dumped); lead_on = All-nil (LeadsToNoVertex s.setup) }

pub drops_then : (s t u : State) → t.setup ≡ s.setup → DropsAtNoVertex s t → DropsAtNoVertex t u → DropsAtNoVertex s u
drops_then s t u setup first rest = record {
  come = first.come ++ rest.come;
  is = rest.is ∙ (ap (λ l. l ++ rest.come) first.is ∙ append_assoc s.dumped first.come rest.come);
  lead_on = All-append (LeadsToNoVertex s.setup) first.come rest.come first.lead_on (subst (λ v. All (LeadsToNoVertex v) rest.come) setup rest.lead_on);
}

-- ---- where no copy waits for a vertex

-- none takes one
pub collect_still : (s : State) (v : ℕ) → AreCollected s → after_event s (Collect v) ≡ s
collect_still s v none = by_queue (slice_get s.cores v) refl
  where
    by_queue : (q : Option (List McCopy)) → slice_get s.cores v ≡ q → unwrap_or (collect_of s v q) s ≡ s
    by_queue (Some []) at = refl
    by_queue (Some (k ∷ rest)) at = absurd (cons_nil (All-at (λ (l : List McCopy). l ≡ []) s.cores v (k ∷ rest) none at))
      where
        cons_nil : k ∷ rest ≡ [] → ⊥
        cons_nil e = cc
    by_queue None at = refl

pub take_collected : (s : State) (c : Chip) (port : Port) → AreCollected s → AreCollected (after_event s (Take c port))
take_collected s c port none = grind (arith, by_take)

-- a copy that comes into a queue, and is collected where that is a vertex's
pushed_collected : (u : State) → AreCollected u → (b : Queue) (k : McCopy) → AreCollected (collected_from (push_behind u b k) b)
pushed_collected u none (input i) k = none
pushed_collected u none (core v) k = by_queue (slice_get u.cores v) refl
  where
    by_queue : (q : Option (List McCopy)) → slice_get u.cores v ≡ q → AreCollected (after_event (record u { cores = push_at u.cores v k q }) (Collect v))
    by_queue (Some q) at =
        let empty : q ≡ [] = All-at (λ (l : List McCopy). l ≡ []) u.cores v q none at in
        let there : slice_get u.cores v ≡ Some [] = at ∙ ap Some empty in
        let t : State = record u { cores = set u.cores v (k ∷ []) } in
        let end : State = record u { delivered = u.delivered ++ record { vertex = v; copy = k } ∷ [] } in
        let last : after_event t (Collect v) ≡ end =
        ap (λ x. unwrap_or (collect_of t v x) t) (slice_get-set_same u.cores v [] (k ∷ []) there)
        ∙ ap (λ l. record end { cores = l }) (set_put_back u.cores v [] (k ∷ []) there) in
        let full : List (List McCopy) → State = λ l. record u { cores = l } in
        subst (λ x. AreCollected (after_event (full (set u.cores v (x ++ k ∷ []))) (Collect v))) (sym empty) (subst AreCollected (sym last) none)
    by_queue None at = subst AreCollected (sym (collect_still u v none)) none
pushed_collected u none nowhere k = none

still_collected : (s : State) → AreCollected s → (b : Queue) → AreCollected (collected_from s b)
still_collected s none b = grind (arith, collect_still)

-- a copy that a router sent, and that was collected
sent_collected : (s : State) (c : Chip) (o : Out) → AreCollected s → AreCollected (collected_from (after_event s (Send c o)) (behind s.setup c o))
sent_collected s c o none = grind (arith, still_collected, pushed_collected)

pub served_collected : (s t u : State) (c : Chip) (o : Out) → AreCollected s → t ≡ after_event s (Send c o) → u ≡ collected_from t (behind t.setup c o) → AreCollected u
served_collected s t u c o none sent is =
    let same : behind t.setup c o ≡ behind s.setup c o = ap (λ (x : State). behind x.setup c o) sent ∙ ap (λ v. behind v c o) (after_event_setup s (Send c o)) in
    subst AreCollected (sym (is ∙ (ap (collected_from t) same ∙ ap (λ x. collected_from x (behind s.setup c o)) sent))) (sent_collected s c o none)

-- ---- a copy is dropped

-- the vertex behind an output is there
core_there : (u : Setup) (c : Chip) (o : Out) (v : ℕ) → behind u c o ≡ core v → v < length u.spots
core_there u c o v is = by_output o is
  where
    by_vertex : (p : Out) (w : Option ℕ) → vertex_behind u.spots c p ≡ w → core_queue_of w ≡ core v → v < length u.spots
    by_vertex p (Some w) found same =
        let stands = vertex_behind_stands u.spots c p w found in
        subst (λ x. x < length u.spots) (same_core w v same) (slice_get_within u.spots w stands.0 stands.1)
    by_vertex p None found same = absurd (core_is_somewhere (sym same))

    by_link : (d : Dir) (live : Bool) (far : Option Chip) → behind_link u c d live far ≡ core v → v < length u.spots
    by_link d true (Some e) there = absurd (input_is_no_core there)
    by_link d true None there = absurd (core_is_somewhere (sym there))
    by_link d false far there = by_vertex (Link d) (vertex_behind u.spots c (Link d)) refl there

    by_output : (p : Out) → behind u c p ≡ core v → v < length u.spots
    by_output (Link d) there = by_link d (is_live_link u.machine c d) (far_of u.machine c d) there
    by_output (Core n) there = by_vertex (Core n) (vertex_behind u.spots c (Core n)) refl there

-- a copy that is dropped is not dropped at a vertex: its queue has room
pub dump_leads_on : (s : State) (c : Chip) (o : Out) → IsMesh s → AreCollected s → DropsAtNoVertex s (after_event s (Dump c o))
dump_leads_on s c o mesh none = by_hand (slice_get s.hands (index_of s.setup.machine c))
  where
    room_at : (v : ℕ) → behind s.setup c o ≡ core v → has_room_behind s (behind s.setup c o) ≡ true
    room_at v is =
        let there : slice_get s.cores v ≡ Some (get_or s.cores v []) = slice_get-get_or s.cores v [] (omega (arith, core_there s.setup c o v is, mesh.core_lists)) in
        let empty : get_or s.cores v [] ≡ [] = All-at (λ (l : List McCopy). l ≡ []) s.cores v (get_or s.cores v []) none there in
        ap (has_room_behind s) is ∙ (ap (has_room s.setup.capacity) (there ∙ ap Some empty) ∙ lt-ltb 0 s.setup.capacity mesh.room)

    by_room : (h : Hand) (served room : Bool) → has_room_behind s (behind s.setup c o) ≡ room →
        DropsAtNoVertex s (unwrap_or (if served && not room then (let next =
        after_serving s c o h in Some (record next { dumped = next.dumped ++ record { chip = c; out = o; copy = h.copy } ∷ [] })) else None) s)
    by_room h true true full = drops_none s s refl
    by_room h true false full =
        let one : DumpRec = record { chip = c; out = o; copy = h.copy } in
        record {
          come = one ∷ [];
          is = refl;
          lead_on = All-cons (LeadsToNoVertex s.setup) one [] (λ v is. full_no (room_at v is) full) (All-nil (LeadsToNoVertex s.setup));
        }
      where
        full_no : has_room_behind s (behind s.setup c o) ≡ true → has_room_behind s (behind s.setup c o) ≡ false → ⊥
        full_no yes' no' = cc
    by_room h false room full = drops_none s s refl

    by_hand : (hand : Option (Option Hand)) → DropsAtNoVertex s (unwrap_or (dump_of s c o hand) s)
    by_hand (Some (Some h)) = by_room h (serves s c o (Some (Some h))) (has_room_behind s (behind s.setup c o)) refl
    by_hand (Some None) = drops_none s s refl
    by_hand None = drops_none s s refl

pub dump_collected : (s : State) (c : Chip) (o : Out) → AreCollected s → AreCollected (after_event s (Dump c o))
dump_collected s c o none = by_dump AreCollected s none (λ h l. none) c o (slice_get s.hands (index_of s.setup.machine c))

-- ---- vertices take what waits for them

pub same_besides : (s : State) → IsSameBesidesCores s s
same_besides s = record { inputs = refl; hands = refl }

pub same_then : (s t u : State) → IsSameBesidesCores s t → IsSameBesidesCores t u → IsSameBesidesCores s u
same_then s t u first rest = record { inputs = rest.inputs ∙ first.inputs; hands = rest.hands ∙ first.hands }

pub collect_besides : (s t : State) (v : ℕ) → t ≡ after_event s (Collect v) → IsSameBesidesCores s t
collect_besides s t v is = grind (arith, same_besides s, by_collect)

-- the vertex's queue alone changes
pub collect_there : (s t : State) (v : ℕ) → t ≡ after_event s (Collect v) → (q : List McCopy) × (t.cores ≡ set s.cores v q)
collect_there s t v is = by_queue (slice_get s.cores v) refl
  where
    from : (q : Option (List McCopy)) → slice_get s.cores v ≡ q → t ≡ unwrap_or (collect_of s v q) s
    from q at = is ∙ ap (λ x. unwrap_or (collect_of s v x) s) at

    stays : t ≡ s → (q : List McCopy) × (t.cores ≡ set s.cores v q)
    stays same = (get_or s.cores v [], ap (λ (x : State). x.cores) same ∙ sym (set-get_or s.cores v []))

    by_queue : (q : Option (List McCopy)) → slice_get s.cores v ≡ q → (r : List McCopy) × (t.cores ≡ set s.cores v r)
    by_queue (Some (k ∷ rest)) at = (rest, ap (λ (x : State). x.cores) (from (Some (k ∷ rest)) at))
    by_queue (Some []) at = stays (from (Some []) at)
    by_queue None at = stays (from None at)

-- where nothing waited, nothing waits
pub quiet_still : (s t : State) → IsSameBesidesCores s t → AreCollected t → NothingWaits s → NothingWaits t
quiet_still s t same none quiet = grind arith

-- all vertices have taken what waited for them
pub all_collected : (s : State) (n : ℕ) → IsMesh s → length s.setup.spots ≤ n → ((i : ℕ) → i < n → get_or s.cores i [] ≡ []) → AreCollected s
all_collected s n mesh all before = grind (arith, get_or_default)

-- one vertex has taken all that waited for it
pub collected_there : (before now : List (List McCopy)) (v : ℕ) (q : List McCopy) → now ≡ set before v q → get_or now v [] ≡ [] → now ≡ set before v []
collected_there before now v q is empty = sym (ap (set now v) (sym empty) ∙ set-get_or now v []) ∙ (ap (λ l. set l v []) is ∙ set_twice before v q [])

-- a vertex that takes no copy has none waiting
pub idle_empty : (s : State) (v : ℕ) → answer s (Collect v) ≡ Idle → get_or s.cores v [] ≡ []
idle_empty s v idle = grind (arith, cases_order, get_or_past, get_or, slice_get-get_or)

-- a vertex more has taken what waited for it
pub one_more_collected : (s t : State) (v : ℕ) → IsMesh s → v < length s.setup.spots → t.cores ≡ set s.cores v [] → ((i : ℕ) → i < v → get_or s.cores i [] ≡ []) →
    (i : ℕ) → i < v + 1 → get_or t.cores i [] ≡ []
one_more_collected s t v mesh below is before = let long = mesh.core_lists in one_vertex_more s.cores t.cores v (omega (arith, below, long)) is before

pub as_it_was : (lists : List (List McCopy)) (v : ℕ) → (q : List McCopy) × (lists ≡ set lists v q)
as_it_was lists v = (get_or lists v [], sym (set-get_or lists v []))

-- ---- an event by which no copy comes into a queue

pub event_leads_on : (s : State) (e : Event) → IsMesh s → AreCollected s → SendsNone e → DropsAtNoVertex s (after_event s e)
event_leads_on s (Inject v) mesh none is = absurd is
event_leads_on s (Take c port) mesh none is = drops_none s (after_event s (Take c port)) (dumped_stays s (Take c port) tt)
event_leads_on s (Send c o) mesh none is = absurd is
event_leads_on s (Dump c o) mesh none is = dump_leads_on s c o mesh none
event_leads_on s (Collect v) mesh none is = drops_none s (after_event s (Collect v)) (dumped_stays s (Collect v) tt)

pub event_collected : (s : State) (e : Event) → AreCollected s → SendsNone e → AreCollected (after_event s e)
event_collected s e none is = grind (arith, take_collected, dump_collected, collect_still)
