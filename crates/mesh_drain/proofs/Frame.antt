-- Events that drop no copy: what they leave as it is, and that they follow on each other.
use Rattle.mesh_drain.proofs.Common.{All, All-append, All-cons, All-head, All-nil, All-tail, All-weaker, DropsNone, Event, Inject, IsAfter, IsOnward, IsReachedDropless, IsReachedOnward, List}
use Rattle.mesh_drain.proofs.Common.{MeetsSomeLedger, State, [], after_event, after_events, after_events-append, ap, arith, by_collect, by_send, by_take, dumped_stays, events_keep, push_behind_leaves}
use Rattle.mesh_drain.proofs.Common.{refl, setup_after, sym, ℕ, ◌++◌, ◌∙◌, ◌∷◌, ◌≡◌}

-- ---- what stays

unsent_stays : (s : State) (e : Event) → IsOnward e → (after_event s e).unsent ≡ s.unsent
unsent_stays s e its_2 = grind (arith, by_take, by_send, push_behind_leaves, by_collect)

-- ---- one after the other

pub reached_none : (s : State) → IsReachedDropless s s
reached_none s = record { events = []; dropless = All-nil DropsNone; is = refl }

pub reached_by : (s t : State) (e : Event) → DropsNone e → t ≡ after_event s e → IsReachedDropless s t
reached_by s t e drops is = record { events = e ∷ []; dropless = All-cons DropsNone e [] drops (All-nil DropsNone); is = is }

pub reached_then : (s t u : State) → IsReachedDropless s t → IsReachedDropless t u → IsReachedDropless s u
reached_then s t u first rest = record {
  events = first.events ++ rest.events;
  dropless = All-append DropsNone first.events rest.events first.dropless rest.dropless;
  is = rest.is ∙ (ap (λ x. after_events x rest.events) first.is ∙ sym (after_events-append s first.events rest.events));
}

-- ---- the same for events of packets under way

pub onward_none : (s t : State) → t ≡ s → IsReachedOnward s t
onward_none s t is = record { events = []; onward = All-nil IsOnward; is = is }

pub onward_by : (s t : State) (e : Event) → IsOnward e → t ≡ after_event s e → IsReachedOnward s t
onward_by s t e on is = record { events = e ∷ []; onward = All-cons IsOnward e [] on (All-nil IsOnward); is = is }

pub onward_then : (s t u : State) → IsReachedOnward s t → IsReachedOnward t u → IsReachedOnward s u
onward_then s t u first rest = grind (arith, All-append IsOnward first.events rest.events first.onward rest.onward, after_events-append s first.events rest.events)

pub onward_drops_none : (e : Event) → IsOnward e → DropsNone e
onward_drops_none e on = grind arith

pub dropless : (s t : State) → IsReachedOnward s t → IsReachedDropless s t
dropless s t reached = record { events = reached.events; dropless = All-weaker IsOnward DropsNone onward_drops_none reached.events reached.onward; is = reached.is }

-- a packet was sent, and went on
pub sent_dropless : (s t : State) (v : ℕ) → IsReachedOnward (after_event s (Inject v)) t → IsReachedDropless s t
sent_dropless s t v on = reached_then s (after_event s (Inject v)) t (reached_by s (after_event s (Inject v)) (Inject v) tt refl) (dropless (after_event s (Inject v)) t on)

-- ---- what holds of what is reached

pub after_reached : (s t : State) → IsReachedDropless s t → IsAfter s t
after_reached s t reached = record { events = reached.events; is = reached.is }

pub kept_after : (s t : State) → MeetsSomeLedger s → IsAfter s t → MeetsSomeLedger t
kept_after s t kept after = grind (arith, events_keep s kept.nets kept.labels kept.mesh kept.right kept.ledger after.events)

pub kept_reached : (s t : State) → MeetsSomeLedger s → IsReachedDropless s t → MeetsSomeLedger t
kept_reached s t kept reached = kept_after s t kept (after_reached s t reached)

unsent_after : (s : State) (es : List Event) → All IsOnward es → (after_events s es).unsent ≡ s.unsent
unsent_after s [] on = refl
unsent_after s (e ∷ es) on = unsent_after (after_event s e) es (All-tail IsOnward e es on) ∙ unsent_stays s e (All-head IsOnward e es on)

pub onward_unsent : (s t : State) → IsReachedOnward s t → t.unsent ≡ s.unsent
onward_unsent s t reached = ap (λ (x : State). x.unsent) reached.is ∙ unsent_after s reached.events reached.onward

dumped_after : (s : State) (es : List Event) → All DropsNone es → (after_events s es).dumped ≡ s.dumped
dumped_after s [] drops = refl
dumped_after s (e ∷ es) drops =
    dumped_after (after_event s e) es (All-tail DropsNone e es drops) ∙ dumped_stays s e (All-head DropsNone e es drops)

pub dumped_reached : (s t : State) → IsReachedDropless s t → t.dumped ≡ s.dumped
dumped_reached s t reached = ap (λ (x : State). x.dumped) reached.is ∙ dumped_after s reached.events reached.dropless

pub after_setup : (s t : State) → IsAfter s t → t.setup ≡ s.setup
after_setup s t after = ap (λ (x : State). x.setup) after.is ∙ setup_after s after.events

pub setup_reached : (s t : State) → IsReachedDropless s t → t.setup ≡ s.setup
setup_reached s t reached = after_setup s t (after_reached s t reached)
