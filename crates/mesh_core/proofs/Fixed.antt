-- A step leaves what a mesh never changes, and so does a list of events.
use Rattle.mesh_core.proofs.Common.{Bool, Chip, Delivery, DropsNone, DumpRec, Event, Hand, List, McCopy, None, Option, Out, Port, Queue, Some, State, [], after_event, after_events, arith, collect_of}
use Rattle.mesh_core.proofs.Common.{dump_of, if◌then◌else◌, push_behind, refl, send_of, take_of, unwrap_or, ℕ, ◌++◌, ◌∙◌, ◌∷◌, ◌≡◌}

-- a copy that comes into a queue leaves the setup, the unsent copies and the dump records
pub push_behind_leaves : (s : State) (b : Queue) (k : McCopy) →
    ((push_behind s b k).setup ≡ s.setup) × ((push_behind s b k).unsent ≡ s.unsent) × ((push_behind s b k).dumped ≡ s.dumped)
push_behind_leaves s b k = grind arith

-- What holds of a mesh, and of all that an event of a kind can make of it, holds after each event of that kind, whether it was
-- enabled or not.
module _ (P : State → Type 0) (s : State) (still : P s) where
  chosen : (b : Bool) (t : State) → P t → P (unwrap_or (if b then Some t else None) s)
  chosen b t moved = grind arith

  pub by_take : ((inputs : List (List McCopy)) (hands : List (Option Hand)) → P (record s { inputs = inputs; hands = hands })) →
      (c : Chip) (port : Port) (hand : Option (Option Hand)) (queue : Option (List McCopy)) → P (unwrap_or (take_of s c port hand queue) s)
  by_take moved c port hand queue = grind (arith, chosen)

  pub by_send : ((hands : List (Option Hand)) (b : Queue) (k : McCopy) → P (push_behind (record s { hands = hands }) b k)) →
      (c : Chip) (o : Out) (hand : Option (Option Hand)) → P (unwrap_or (send_of s c o hand) s)
  by_send moved c o hand = grind (arith, chosen)

  pub by_dump : ((hands : List (Option Hand)) (dumped : List DumpRec) → P (record s { hands = hands; dumped = dumped })) →
      (c : Chip) (o : Out) (hand : Option (Option Hand)) → P (unwrap_or (dump_of s c o hand) s)
  by_dump moved c o hand = grind (arith, chosen)

  pub by_collect : ((cores : List (List McCopy)) (delivered : List Delivery) → P (record s { cores = cores; delivered = delivered })) →
      (v : ℕ) (queue : Option (List McCopy)) → P (unwrap_or (collect_of s v queue) s)
  by_collect moved v queue = grind arith

-- no event changes the setup
pub after_event_setup : (s : State) (e : Event) → (after_event s e).setup ≡ s.setup
after_event_setup s e = grind (arith, push_behind_leaves, by_take, by_send, by_dump, by_collect, chosen)

-- only a Dump makes a dump record
pub dumped_stays : (s : State) (e : Event) → DropsNone e → (after_event s e).dumped ≡ s.dumped
dumped_stays s e its_2 = grind (arith, push_behind_leaves, by_take, by_send, by_collect, chosen)

pub setup_after : (s : State) (es : List Event) → (after_events s es).setup ≡ s.setup
setup_after s [] = refl
setup_after s (e ∷ es) = setup_after (after_event s e) es ∙ after_event_setup s e

-- events one list after the other
pub after_events-append : (s : State) (es fs : List Event) → after_events s (es ++ fs) ≡ after_events (after_events s es) fs
after_events-append s [] fs = refl
after_events-append s (e ∷ es) fs = after_events-append (after_event s e) es fs
