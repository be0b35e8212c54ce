-- Where an event is enabled, and the mesh after it, by what the code looks at.
use Rattle.mesh_core.proofs.Common.{Chip, Event, Hand, Idle, List, McCopy, Moved, None, Option, Port, Queue, Some, State, Take, after_event, answer, ap, arith, cores_after, drop_front, front_of}
use Rattle.mesh_core.proofs.Common.{if◌then◌else◌, index_of, inputs_after, is_live_chip, is_some, outputs, push_behind, queue_at, set, slice_get, step_of, sym, take_of, true, unwrap_or, ◌≡◌}
use Rattle.mesh_core.specs.Step.{in_hand}

-- what a step answers and leaves where the event is enabled
pub answer-moved : (s t : State) (e : Event) → step_of s e ≡ Some t → Moved ≡ answer s e
answer-moved s t e moves = sym (ap (λ (o : Option State). if is_some o then Moved else Idle) moves)

pub after_event-moved : (s t : State) (e : Event) → step_of s e ≡ Some t → t ≡ after_event s e
after_event-moved s t e moves = sym (ap (λ (o : Option State). unwrap_or o s) moves)

-- a live chip took a copy
take_by : (s : State) (c : Chip) (port : Port) (k : McCopy) (q : Option (List McCopy)) → front_of q ≡ Some k → is_live_chip s.setup.machine c ≡ true →
    take_of s c port (Some None) q ≡ Some (record s {
      inputs = drop_front s.inputs (queue_at s.setup.machine c port) q;
      hands = set s.hands (index_of s.setup.machine c) (in_hand k port (outputs s.setup c port k));
    })
take_by s c port k q front live = grind arith

-- the mesh after a copy was taken
pub step_of-take : (s : State) (c : Chip) (port : Port) (k : McCopy) (inputs : List (List McCopy)) (hands : List (Option Hand)) → is_live_chip s.setup.machine c ≡ true →
    slice_get s.hands (index_of s.setup.machine c) ≡ Some None → Some k ≡ front_of (slice_get s.inputs (queue_at s.setup.machine c port)) →
    inputs ≡ drop_front s.inputs (queue_at s.setup.machine c port) (slice_get s.inputs (queue_at s.setup.machine c port)) →
    hands ≡ set s.hands (index_of s.setup.machine c) (in_hand k port (outputs s.setup c port k)) →
    step_of s (Take c port) ≡ Some (record s { inputs = inputs; hands = hands })
step_of-take s c port k inputs hands live free front is_inputs is_hands = grind (arith, take_by)

-- the mesh where a copy came into the queue behind an output
pub arrived_is : (s : State) (b : Queue) (k : McCopy) → push_behind s b k ≡ record s { inputs = inputs_after s.inputs b k; cores = cores_after s.cores b k }
arrived_is s b k = grind arith
