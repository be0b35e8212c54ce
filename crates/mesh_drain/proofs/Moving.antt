-- A copy that waits can be moved, and is lighter then.
use Rattle.mesh_drain.proofs.Common.{All, All-append, All-at, All-nil, Among, AtPort, Bool, Chip, Did, DropsNone, Dump, Err, Event, Hand, HasCopies, Idle, InCore, InHand, IsAfter, IsInside, IsMesh}
use Rattle.mesh_drain.proofs.Common.{IsMesh-after_events, IsMoved, IsNextOut, IsReachedDropless, IsWaiting, List, McCopy, MeetsSomeLedger, Memory, Moved, None, NothingWaits, Ok, OnOk, Option, Out}
use Rattle.mesh_drain.proofs.Common.{Result, Send, Setup, Some, State, Waits, [], after_event, after_events, after_events-append, among_any, answer, ap, arith, behind, dump_of, false, has_room_behind}
use Rattle.mesh_drain.proofs.Common.{if◌then◌else◌, index_of, is_live_chip, is_some, length, none-some, not, out_eq_same, queue_at, refl, send_of, slice_get, step_of, subst, sym, true, unwrap_or}
use Rattle.mesh_drain.proofs.Common.{weight_in, ℕ, ◌&&◌, ◌++◌, ◌<◌, ◌∙◌, ◌∷◌, ◌≡◌, ◌≤◌}
pub use Rattle.mesh_drain.proofs.Frame.{after_reached, after_setup, kept_after}
use Rattle.mesh_drain.proofs.{Frame.dumped_reached, Progress.moved_lighter, Progress.event_lighter}

-- ---- events, one after the other

pub after_none : (s : State) → IsAfter s s
after_none s = record { events = []; is = refl }

pub after_one : (s t : State) (e : Event) → t ≡ after_event s e → IsAfter s t
after_one s t e is = record { events = e ∷ []; is = is }

-- a mesh is one after events
pub mesh_after : (s t : State) → IsMesh s → IsAfter s t → IsMesh t
mesh_after s t mesh after = subst IsMesh (sym after.is) (IsMesh-after_events s after.events mesh)

pub after_then : (s t u : State) → IsAfter s t → IsAfter t u → IsAfter s u
after_then s t u first rest = grind (arith, after_events-append s first.events rest.events)

pub there_after : (s t : State) (v : ℕ) → IsAfter s t → v < length s.setup.spots → v < length t.setup.spots
there_after s t v after below = subst (λ (u : Setup). v < length u.spots) (sym (after_setup s t after)) below

-- events never make the marks heavier
pub after_lighter : (s t : State) → IsMesh s → IsAfter s t → weight_in t ≤ weight_in s
after_lighter s t mesh after = subst (λ x. weight_in x ≤ weight_in s) (sym after.is) (by_events s mesh after.events)
  where
    by_events : (u : State) → IsMesh u → (es : List Event) → weight_in (after_events u es) ≤ weight_in u
    by_events u own [] = omega arith
    by_events u own (e ∷ es) = grind (arith, event_lighter u e own, by_events (after_event u e) (IsMesh-after_events u (e ∷ []) own) es, IsMesh-after_events u (e ∷ []) own)

-- where something waited at the start, whatever comes
pub moved_on : (s t u : State) → IsMoved s t → (NothingWaits s → ⊥) → IsAfter t u → IsMoved s u
moved_on s t u first waits rest = grind (arith, after_events-append s first.events rest.events)

-- and then events that drop no copy
pub moved_then : (s t u : State) → IsMoved s t → IsReachedDropless t u → IsMoved s u
moved_then s t u first rest = record {
  events = first.events ++ rest.events;
  is = rest.is ∙ (ap (λ x. after_events x rest.events) first.is ∙ sym (after_events-append s first.events rest.events));
  dropless = λ quiet. All-append DropsNone first.events rest.events (first.dropless quiet) rest.dropless;
  no_record = λ quiet. dumped_reached t u rest ∙ first.no_record quiet;
}

pub moved_none : (s : State) → IsMoved s s
moved_none s = record { events = []; is = refl; dropless = λ quiet. All-nil DropsNone; no_record = λ quiet. refl }

pub after_moved : (s t : State) → IsMoved s t → IsAfter s t
after_moved s t moved = record { events = moved.events; is = moved.is }

pub kept_moved : (s t : State) → MeetsSomeLedger s → IsMoved s t → MeetsSomeLedger t
kept_moved s t kept moved = kept_after s t kept (after_moved s t moved)

-- what holds whatever the answer
pub always : {A : Type 0} {P : Type 0} (r : Result A Memory) → P → OnOk r P
always (Ok x) holds = holds
always (Err want) holds = tt

-- ---- an event that is enabled

pub lighter : (s t : State) (e : Event) → IsMesh s → is_some (step_of s e) ≡ true → t ≡ after_event s e → weight_in t < weight_in s
lighter s t e mesh enabled is = grind (arith, moved_lighter)

pub idle_stays : (s : State) (e : Event) → answer s e ≡ Idle → after_event s e ≡ s
idle_stays s e idle = grind arith

pub idle_from : (did : Did) → (did ≡ Moved → ⊥) → did ≡ Idle
idle_from did other = grind arith

pub moved_enabled : (s : State) (e : Event) → answer s e ≡ Moved → is_some (step_of s e) ≡ true
moved_enabled s e moved = grind arith

-- ---- chips where copies wait are live

-- ---- what waits can be moved

-- a hand whose copy cannot be sent by the output can drop it there
pub dump_enabled : (s : State) (c : Chip) (o : Out) → IsMesh s → IsWaiting s (InHand c o) → answer s (Send c o) ≡ Idle → is_some (step_of s (Dump c o)) ≡ true
dump_enabled s c o mesh waits idle = grind (arith, out_eq_same, Among, among_any)

-- in an empty queue no copy waits
none_waits : (lists : List (List McCopy)) (i : ℕ) → All (λ q. q ≡ []) lists → (q : Option (List McCopy)) → slice_get lists i ≡ q → HasCopies q → ⊥
none_waits lists i empty (Some (k ∷ rest)) at has = cons_nil (All-at (λ (l : List McCopy). l ≡ []) lists i (k ∷ rest) empty at)
  where
    cons_nil : k ∷ rest ≡ [] → ⊥
    cons_nil e = cc
none_waits lists i empty (Some []) at none = none
none_waits lists i empty None at none = none

-- what waits, waits: not nothing does
pub waits_somewhere : (s : State) (at : Waits) → IsWaiting s at → NothingWaits s → ⊥
waits_somewhere s (InCore v) waits quiet = none_waits s.cores v quiet.cores_empty (slice_get s.cores v) refl waits
waits_somewhere s (InHand c o) waits quiet = by_hand (slice_get s.hands (index_of s.setup.machine c)) refl waits.1
  where
    by_hand : (h : Option (Option Hand)) → slice_get s.hands (index_of s.setup.machine c) ≡ h → IsNextOut o h → ⊥
    by_hand (Some (Some h)) at next = none-some h (sym (All-at (λ (x : Option Hand). x ≡ None) s.hands (index_of s.setup.machine c) (Some h) quiet.hands_empty at))
    by_hand (Some None) at none = none
    by_hand None at none = none
waits_somewhere s (AtPort c port) waits quiet =
    none_waits s.inputs (queue_at s.setup.machine c port) quiet.inputs_empty (slice_get s.inputs (queue_at s.setup.machine c port)) refl waits.1
