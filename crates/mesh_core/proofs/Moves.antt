-- What one event does to the marks of a mesh: one mark leaves, and others come in its place.
use Rattle.mesh_core.proofs.Common.{ByLink, Chip, Delivery, Description, Dir, DumpRec, East, Hand, IsInside, IsLiveLink, Link, List, Local, Mark, McCopy, North, NorthEast, Option, Out, Port, PutIn}
use Rattle.mesh_core.proofs.Common.{Some, South, SouthWest, Spot, State, Station, TakenOut, West, [], all_hand_marks, ap, append-nil, arith, at_core, chip_of, core_marks, delivered, delivered_marks}
use Rattle.mesh_core.proofs.Common.{dumped, dumped_marks, false, far_of, gathered, hand_marks, held_for, in_hand, in_queue, index_of, inl, input_marks, inr, is_live_link, map, map-append, marks_at}
use Rattle.mesh_core.proofs.Common.{marks_of, onward, opposite_of, outputs, port_number, port_of, put_in_after, put_in_before, queue_at, refl, slice_get, slice_set, subst, suc, sym, taken_out_after}
use Rattle.mesh_core.proofs.Common.{taken_out_before, unsent, unsent_marks, vertex_behind, zero, zero-add, ℕ, ◌%◌, ◌*◌, ◌++◌, ◌+◌, ◌/◌, ◌∙◌, ◌∷◌, ◌≡◌, ◌⊎◌}
pub use Rattle.machine_desc.proofs.Live.{chip_of-index_of}
use Rattle.mesh_core.proofs.Changes.{port_below}

abbrev pub mark : McCopy → Station → Mark
mark k at = record { copy = k; station = at }

-- A copy leaves a hand by an output behind which there is a queue, into that queue: at the far end of a live link, else that of
-- the vertex to which the output leads.
abbrev pub Crosses : State → McCopy → Chip → Out → List Mark → Type 0
Crosses s k c o ys =
    ((d : Dir) × (e : Chip) × (o ≡ Link d) × IsLiveLink s.setup.machine c d × (far_of s.setup.machine c d ≡ Some e) ×
    (ys ≡ mark (onward k) (in_queue e (ByLink (opposite_of d))) ∷ []))
    ⊎ ((v : ℕ) × ((d : Dir) → o ≡ Link d → is_live_link s.setup.machine c d ≡ false) × (vertex_behind s.setup.spots c o ≡ Some v) ×
    (ys ≡ mark (onward k) (at_core v) ∷ []))

-- What comes in the place of a mark that leaves: of an unsent copy one in the injection queue of its vertex's chip; of
-- one in a queue one in the hand for each output that lookup gives; of one in a hand a dump record, or one in the queue
-- behind the output; of one at a core a delivery; of a dump record one in the queue behind its output. Deliveries stay.
abbrev pub IsMoveOf : State → McCopy → Station → List Mark → Type 0
IsMoveOf s k (unsent v) ys = (spot : Spot) × (slice_get s.setup.spots v ≡ Some spot) × (ys ≡ mark k (in_queue spot.chip Local) ∷ [])
IsMoveOf s k (in_queue c port) ys = ys ≡ map (λ o. mark k (in_hand c o)) (outputs s.setup c port k)
IsMoveOf s k (in_hand c o) ys = (ys ≡ mark k (dumped c o) ∷ []) ⊎ Crosses s k c o ys
IsMoveOf s k (at_core v) ys = ys ≡ mark k (delivered v) ∷ []
IsMoveOf s k (delivered v) ys = ⊥
IsMoveOf s k (dumped c o) ys = Crosses s k c o ys

abbrev pub IsMove : State → Mark → List Mark → Type 0
IsMove s x ys = IsMoveOf s x.copy x.station ys

-- what comes alone, of the same packet
pub record ComesAlone (k : McCopy) (ys : List Mark) : Type 0 where
  pub comes : Mark
  pub alone : ys ≡ comes ∷ []
  pub packet : comes.copy.packet ≡ k.packet
  pub key : comes.copy.key ≡ k.key
  pub payload : comes.copy.payload ≡ k.payload

crossed : (s : State) (k : McCopy) (c : Chip) (o : Out) (ys : List Mark) → Crosses s k c o ys → ComesAlone k ys
crossed s k c o ys its_5 = grind arith

-- In the place of a mark comes one alone, or, of one in a queue, one for each output that lookup gives.
pub alone_or_taken : (s : State) (k : McCopy) (at : Station) (ys : List Mark) → IsMoveOf s k at ys →
    ComesAlone k ys ⊎ ((c : Chip) × (port : Port) × (at ≡ in_queue c port) × (ys ≡ map (λ o. mark k (in_hand c o)) (outputs s.setup c port k)))
alone_or_taken s k at ys its_4 = grind (arith, crossed)

-- What an event that is enabled does, or putting a copy back: one move.
pub record Exchange (s t : State) : Type 0 where
  pub leaves : Mark
  pub come : List Mark
  pub rest : List Mark
  pub out : TakenOut leaves (marks_of s) rest
  pub put : PutIn come rest (marks_of t)
  pub move : IsMove s leaves come
  pub setup : t.setup ≡ s.setup

-- ---- the numbers of queues

pub port_of-port_number : (port : Port) → port_of (port_number port) ≡ port
port_of-port_number port = grind arith

-- the station of a queue's number
pub station_of_queue : (m : Description) (c : Chip) (port : Port) → IsInside m c → in_queue (chip_of m ((0 + queue_at m c port) / 7)) (port_of ((0 + queue_at m c port) % 7)) ≡ in_queue c port
station_of_queue m c port inside = grind (arith, port_below port, port_of-port_number port)

-- ---- parts of the marks

pub front_out : (at : Station) (k : McCopy) (q : List McCopy) → TakenOut (mark k at) (marks_at at (k ∷ q)) (marks_at at q)
front_out at k q = record { front = []; back = marks_at at q; before_is = refl; after_is = refl }

pub back_in : (at : Station) (k : McCopy) (q : List McCopy) → PutIn (mark k at ∷ []) (marks_at at q) (marks_at at (q ++ k ∷ []))
back_in at k q = grind (arith, append-nil (marks_at at q), map-append)

-- what comes at the back of a list of made marks
pub made_in : {X : Type 0} (f : X → Mark) (x : X) (xs : List X) → PutIn (f x ∷ []) (map f xs) (map f (xs ++ x ∷ []))
made_in f x xs = record { front = map f xs; back = []; before_is = sym (append-nil (map f xs)); after_is = map-append f xs (x ∷ []) }

pub hand_marks-held : (c : Chip) (k : McCopy) (port : Port) (os : List Out) → hand_marks c (held_for k port os) ≡ map (λ o. mark k (in_hand c o)) os
hand_marks-held c k port os = grind arith

-- ---- one list of the mesh changes, so the marks of the mesh change

-- what stands behind the copies in hands, behind those at ports and behind the unsent ones
abbrev pub behind_hands : State → List Mark
behind_hands s = core_marks s ++ (delivered_marks s ++ dumped_marks s)

abbrev pub behind_inputs : State → List Mark
behind_inputs s = all_hand_marks s ++ behind_hands s

abbrev pub behind_unsent : State → List Mark
behind_unsent s = input_marks s ++ behind_inputs s

-- a relation that holds of lists where it holds of a part of them
pub record HoldsByParts (R : List Mark → List Mark → Type 0) : Type 0 where
  pub later : (l before after : List Mark) → R before after → R (l ++ before) (l ++ after)
  pub earlier : (before after r : List Mark) → R before after → R (before ++ r) (after ++ r)

pub taken_by_parts : (x : Mark) → HoldsByParts (TakenOut x)
taken_by_parts x = record { later = taken_out_after x; earlier = taken_out_before x }

pub put_by_parts : (xs : List Mark) → HoldsByParts (PutIn xs)
put_by_parts xs = record { later = put_in_after xs; earlier = put_in_before xs }

module _ (R : List Mark → List Mark → Type 0) (parts : HoldsByParts R) where
  -- what is made of one item changes, so what is made of the list
  made_changes : {X : Type 0} (f : ℕ → X → List Mark) (i : ℕ) (xs : List X) (j : ℕ) (old new : X) → slice_get xs j ≡ Some old →
      R (f (i + j) old) (f (i + j) new) → R (gathered f i xs) (gathered f i (slice_set xs j new))
  made_changes f i [] j old new at r = cc
  made_changes {X} f i (x ∷ xs) zero old new at r = grind arith
  made_changes f i (x ∷ xs) (suc j) old new at r =
      let n_is : i + suc j ≡ (i + 1) + j = omega arith in
      parts.later (f i x) (gathered f (i + 1) xs) (gathered f (i + 1) (slice_set xs j new))
      (made_changes f (i + 1) xs j old new at (subst (λ n. R (f n old) (f n new)) n_is r))

  third_later : (a b c before after : List Mark) → R before after → R (a ++ (b ++ (c ++ before))) (a ++ (b ++ (c ++ after)))
  third_later a b c before after r = grind arith

  pub unsent_changes : (s : State) (v : ℕ) (old new : List McCopy) → slice_get s.unsent v ≡ Some old →
      R (marks_at (unsent v) old) (marks_at (unsent v) new) → R (marks_of s) (marks_of (record s { unsent = slice_set s.unsent v new }))
  unsent_changes s v old new at r =
      let n_is : v ≡ 0 + v = omega arith in
      parts.earlier (unsent_marks s) (unsent_marks (record s { unsent = slice_set s.unsent v new })) (behind_unsent s)
      (made_changes (λ w copies. marks_at (unsent w) copies) 0 s.unsent v old new at (subst (λ n. R (marks_at (unsent n) old) (marks_at (unsent n) new)) n_is r))

  pub inputs_change : (s : State) (c : Chip) (port : Port) → IsInside s.setup.machine c → (old new : List McCopy) →
      slice_get s.inputs (queue_at s.setup.machine c port) ≡ Some old → R (marks_at (in_queue c port) old) (marks_at (in_queue c port) new) →
      R (marks_of s) (marks_of (record s { inputs = slice_set s.inputs (queue_at s.setup.machine c port) new }))
  inputs_change s c port inside old new at r =
      let s' : State = record s { inputs = slice_set s.inputs (queue_at s.setup.machine c port) new } in
      parts.later (unsent_marks s) (behind_unsent s) (behind_unsent s') (parts.earlier (input_marks s) (input_marks s') (behind_inputs s)
      (made_changes (λ n copies. marks_at (in_queue (chip_of s.setup.machine (n / 7)) (port_of (n % 7))) copies) 0 s.inputs (queue_at s.setup.machine c port) old new at
      (subst (λ st. R (marks_at st old) (marks_at st new)) (sym (station_of_queue s.setup.machine c port inside)) r)))

  pub hands_change : (s : State) (c : Chip) → IsInside s.setup.machine c → (old new : Option Hand) →
      slice_get s.hands (index_of s.setup.machine c) ≡ Some old → R (hand_marks c old) (hand_marks c new) →
      R (marks_of s) (marks_of (record s { hands = slice_set s.hands (index_of s.setup.machine c) new }))
  hands_change s c inside old new at r =
      let i = index_of s.setup.machine c in
      let s' : State = record s { hands = slice_set s.hands i new } in
      let is_chip : chip_of s.setup.machine (0 + i) ≡ c = ap (chip_of s.setup.machine) (zero-add i) ∙ chip_of-index_of s.setup.machine c inside in
      parts.later (unsent_marks s) (behind_unsent s) (behind_unsent s') (parts.later (input_marks s) (behind_inputs s) (behind_inputs s')
      (parts.earlier (all_hand_marks s) (all_hand_marks s') (behind_hands s)
      (made_changes (λ n h. hand_marks (chip_of s.setup.machine n) h) 0 s.hands i old new at (subst (λ d. R (hand_marks d old) (hand_marks d new)) (sym is_chip) r))))

  pub cores_change : (s : State) (v : ℕ) (old new : List McCopy) → slice_get s.cores v ≡ Some old →
      R (marks_at (at_core v) old) (marks_at (at_core v) new) → R (marks_of s) (marks_of (record s { cores = slice_set s.cores v new }))
  cores_change s v old new at r =
      let s' : State = record s { cores = slice_set s.cores v new } in
      let n_is : v ≡ 0 + v = omega arith in
      third_later (unsent_marks s) (input_marks s) (all_hand_marks s) (behind_hands s) (behind_hands s')
      (parts.earlier (core_marks s) (core_marks s') (delivered_marks s ++ dumped_marks s)
      (made_changes (λ w copies. marks_at (at_core w) copies) 0 s.cores v old new at (subst (λ n. R (marks_at (at_core n) old) (marks_at (at_core n) new)) n_is r)))

  pub delivered_changes : (s : State) (d : List Delivery) → R (delivered_marks s) (delivered_marks (record s { delivered = d })) →
      R (marks_of s) (marks_of (record s { delivered = d }))
  delivered_changes s d r = grind (arith, third_later)

  pub dumped_changes : (s : State) (d : List DumpRec) → R (dumped_marks s) (dumped_marks (record s { dumped = d })) → R (marks_of s) (marks_of (record s { dumped = d }))
  dumped_changes s d r = grind (arith, third_later)

-- the first dump record leaves
pub dumped_out : (s : State) (r : DumpRec) (rest : List DumpRec) → s.dumped ≡ r ∷ rest →
    TakenOut (mark r.copy (dumped r.chip r.out)) (marks_of s) (marks_of (record s { dumped = rest }))
dumped_out s r rest is =
    let x : Mark = mark r.copy (dumped r.chip r.out) in
    let marks_are : dumped_marks s ≡ x ∷ dumped_marks (record s { dumped = rest }) = ap (map (λ (e : DumpRec). mark e.copy (dumped e.chip e.out))) is in
    dumped_changes (TakenOut x) (taken_by_parts x) s rest (record { front = []; back = dumped_marks (record s { dumped = rest }); before_is = marks_are; after_is = refl })
