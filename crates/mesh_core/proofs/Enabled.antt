-- What an event that is enabled found, and the mesh that it left.
use Rattle.mesh_core.proofs.Common.{Bool, Collect, Dump, Event, Hand, Inject, List, Local, McCopy, None, Option, Send, Some, Spot, State, Take, [], after_serving, and_parts, arith, behind, false}
use Rattle.mesh_core.proofs.Common.{has_room_behind, held_for, if◌then◌else◌, index_of, input, is_live_chip, onward, outputs, push_behind, queue_at, refl, serves, slice_get, slice_set, step_of, true}
use Rattle.mesh_core.proofs.Common.{unwrap_or, ◌++◌, ◌∷◌, ◌≡◌}

-- what was chosen is there
pub if_some : {X : Type 0} (b : Bool) (u t : X) → (if b then Some u else None) ≡ Some t → (b ≡ true) × (u ≡ t)
if_some true u t e = (refl, cc)
if_some false u t e = cc

-- what holds of a mesh, and of the one that came of it, holds afterwards
pub after_answer : (P : State → Type 0) (s : State) → P s → (t : Option State) → ((u : State) → t ≡ Some u → P u) → P (unwrap_or t s)
after_answer P s still t moved = grind arith

-- What an event found: the front of a list, a free hand or a hand with the output, room where the copy goes; and the mesh that it left.
abbrev pub FoundBy : State → Event → State → Type 0
FoundBy s (Inject v) t =
    (spot : Spot) × (k : McCopy) × (rest : List McCopy) × (slice_get s.setup.spots v ≡ Some spot) × (slice_get s.unsent v ≡ Some (k ∷ rest)) ×
    (has_room_behind s (input (queue_at s.setup.machine spot.chip Local)) ≡ true) ×
    (push_behind (record s { unsent = slice_set s.unsent v rest }) (input (queue_at s.setup.machine spot.chip Local)) k ≡ t)
FoundBy s (Take c port) t =
    (k : McCopy) × (rest : List McCopy) × (slice_get s.hands (index_of s.setup.machine c) ≡ Some None) ×
    (slice_get s.inputs (queue_at s.setup.machine c port) ≡ Some (k ∷ rest)) × (is_live_chip s.setup.machine c ≡ true) ×
    ((let u : State = record s {
      inputs = slice_set s.inputs (queue_at s.setup.machine c port) rest;
      hands = slice_set s.hands (index_of s.setup.machine c) (held_for k port (outputs s.setup c port k));
    } in u) ≡ t)
FoundBy s (Send c o) t =
    (h : Hand) × (slice_get s.hands (index_of s.setup.machine c) ≡ Some (Some h)) × (serves s c o (Some (Some h)) ≡ true) ×
    (has_room_behind s (behind s.setup c o) ≡ true) × (push_behind (after_serving s c o h) (behind s.setup c o) (onward h.copy) ≡ t)
FoundBy s (Dump c o) t =
    (h : Hand) × (slice_get s.hands (index_of s.setup.machine c) ≡ Some (Some h)) × (serves s c o (Some (Some h)) ≡ true) ×
    ((let u : State = record (after_serving s c o h) { dumped = s.dumped ++ record { chip = c; out = o; copy = h.copy } ∷ [] } in u) ≡ t)
FoundBy s (Collect v) t =
    (k : McCopy) × (rest : List McCopy) × (slice_get s.cores v ≡ Some (k ∷ rest)) ×
    ((let u : State = record s { cores = slice_set s.cores v rest; delivered = s.delivered ++ record { vertex = v; copy = k } ∷ [] } in u) ≡ t)

module _ (s t : State) where
  pub event_found : (e : Event) → step_of s e ≡ Some t → FoundBy s e t
  event_found (Inject v) moves = grind (arith, if_some)
  event_found (Take c port) moves = grind (arith, if_some)
  event_found (Send c o) moves = grind (arith, if_some, and_parts)
  event_found (Dump c o) moves = grind (arith, if_some, and_parts)
  event_found (Collect v) moves = grind arith
