-- Which marks a mesh has, by their stations: those of the lists' items there.
use Rattle.mesh_core.proofs.Common.{Among, Chip, Delivery, Description, DumpRec, Hand, IsInside, List, Mark, McCopy, None, Option, Out, Port, Some, State, Station, all_hand_marks, among_either}
use Rattle.mesh_core.proofs.Common.{among_gathered, among_left, among_map, among_right, any_among, arith, at_core, chip_of, core_marks, delivered, delivered_marks, dumped, dumped_marks, gathered}
use Rattle.mesh_core.proofs.Common.{gathered_among, hand_marks, in_hand, in_queue, index_of, index_of-chip_of, inl, input_marks, inr, list_any, map_among, marks_at, marks_of, out_eq, out_eq_true}
use Rattle.mesh_core.proofs.Common.{port_number, port_of, queue_at, refl, slice_get, subst, sym, true, unsent, unsent_marks, zero-add, ℕ, ◌%◌, ◌++◌, ◌+◌, ◌/◌, ◌<◌, ◌≡◌}
use Rattle.mesh_core.proofs.Moves.{behind_hands, behind_inputs, behind_unsent, mark, chip_of-index_of, station_of_queue}

-- ---- chips and ports by number

-- the number of the port of a number below 7 is that number
pub port_number-port_of : (n : ℕ) → n < 7 → port_number (port_of n) ≡ n
port_number-port_of n low = grind arith

-- the place of the queues of a chip and port is one
pub place_of_queue : (m : Description) (c : Chip) (port : Port) (i : ℕ) → IsInside m c → chip_of m (i / 7) ≡ c → port_of (i % 7) ≡ port →
    i ≡ queue_at m c port
place_of_queue m c port i inside is_chip is_port = grind (arith, index_of-chip_of m (i / 7), port_number-port_of (i % 7) (omega arith))

-- ---- marks by their stations

-- whether the lists have the copy at the station
abbrev pub StandsAt : State → McCopy → Station → Type 0
StandsAt s k (unsent v) = (q : List McCopy) × (slice_get s.unsent v ≡ Some q) × Among k q
StandsAt s k (in_queue c port) =
    (i : ℕ) × (q : List McCopy) × (slice_get s.inputs i ≡ Some q) × (chip_of s.setup.machine (i / 7) ≡ c) × (port_of (i % 7) ≡ port) × Among k q
StandsAt s k (in_hand c o) =
    (i : ℕ) × (h : Hand) × (slice_get s.hands i ≡ Some (Some h)) × (chip_of s.setup.machine i ≡ c) × (h.copy ≡ k) × Among o h.outs
StandsAt s k (at_core v) = (q : List McCopy) × (slice_get s.cores v ≡ Some q) × Among k q
StandsAt s k (delivered v) = Among (record { vertex = v; copy = k }) s.delivered
StandsAt s k (dumped c o) = Among (record { chip = c; out = o; copy = k }) s.dumped

as_mark : (s : State) (k : Mark) (c : McCopy) (at : Station) → k ≡ mark c at → StandsAt s c at → StandsAt s k.copy k.station
as_mark s k c at is stands = subst (λ (m : Mark). StandsAt s m.copy m.station) (sym is) stands

-- a mark of lists of queues is of a copy in one of them
of_queues : (at : ℕ → Station) (lists : List (List McCopy)) (k : Mark) → Among k (gathered (λ v q. marks_at (at v) q) 0 lists) →
    (v : ℕ) × (q : List McCopy) × (c : McCopy) × (slice_get lists v ≡ Some q) × Among c q × (k ≡ mark c (at v))
of_queues at lists k a = grind (arith, among_gathered, among_map, mark)

-- a mark of the mesh stands in its lists
pub mark_stands : (s : State) (k : Mark) → Among k (marks_of s) → StandsAt s k.copy k.station
mark_stands s k a = elim (among_either k (unsent_marks s) (behind_unsent s) a) [
  | inl b ↦ let m = of_queues unsent s.unsent k b in as_mark s k m.2 (unsent m.0) m.5 (m.1, m.3, m.4)
  | inr a1 ↦ elim (among_either k (input_marks s) (behind_inputs s) a1) [
    | inl b ↦
        let at : ℕ → Station = λ i. in_queue (chip_of s.setup.machine (i / 7)) (port_of (i % 7)) in
        let m = of_queues at s.inputs k b in
        as_mark s k m.2 (at m.0) m.5 (m.0, m.1, m.3, refl, refl, m.4)
    | inr a2 ↦ elim (among_either k (all_hand_marks s) (behind_hands s) a2) [
      | inl b ↦
          let at = among_gathered (λ i (h : Option Hand). hand_marks (chip_of s.setup.machine i) h) k s.hands b in
          of_hand at.0 at.1 at.2 at.3
      | inr a3 ↦ elim (among_either k (core_marks s) (delivered_marks s ++ dumped_marks s) a3) [
        | inl b ↦ let m = of_queues at_core s.cores k b in as_mark s k m.2 (at_core m.0) m.5 (m.1, m.3, m.4)
        | inr a4 ↦ elim (among_either k (delivered_marks s) (dumped_marks s) a4) [
          | inl b ↦
              let m = among_map (λ (d : Delivery). mark d.copy (delivered d.vertex)) k s.delivered b in
              as_mark s k m.0.copy (delivered m.0.vertex) m.2 m.1
          | inr b ↦
              let m = among_map (λ (r : DumpRec). mark r.copy (dumped r.chip r.out)) k s.dumped b in
              as_mark s k m.0.copy (dumped m.0.chip m.0.out) m.2 m.1
        ]
      ]
    ]
  ]
]
  where
    of_hand : (i : ℕ) (h : Option Hand) → slice_get s.hands i ≡ Some h → Among k (hand_marks (chip_of s.setup.machine i) h) → StandsAt s k.copy k.station
    of_hand i (Some h) at b =
        let m = among_map (λ o. mark h.copy (in_hand (chip_of s.setup.machine i) o)) k h.outs b in
        as_mark s k h.copy (in_hand (chip_of s.setup.machine i) m.0) m.2 (i, h, at, refl, refl, m.1)
    of_hand i None at b = absurd b

-- and what stands in the lists has a mark, here of the stations at which a copy is looked for

-- a copy in the input queue at a place
pub input_mark : (s : State) (i : ℕ) (k : McCopy) (q : List McCopy) → slice_get s.inputs i ≡ Some q → Among k q →
    Among (mark k (in_queue (chip_of s.setup.machine (i / 7)) (port_of (i % 7)))) (marks_of s)
input_mark s i k q at a =
    let place : Station = in_queue (chip_of s.setup.machine (i / 7)) (port_of (i % 7)) in
    among_right (mark k place) (unsent_marks s) (behind_unsent s) (among_left (mark k place) (input_marks s) (behind_inputs s)
    (gathered_among (λ n (l : List McCopy). marks_at (in_queue (chip_of s.setup.machine (n / 7)) (port_of (n % 7))) l) (mark k place) s.inputs i q at
    (map_among (λ (d : McCopy). mark d place) k q a)))

pub queued_mark : (s : State) (c : Chip) (port : Port) → IsInside s.setup.machine c → (k : McCopy) (q : List McCopy) →
    slice_get s.inputs (queue_at s.setup.machine c port) ≡ Some q → Among k q → Among (mark k (in_queue c port)) (marks_of s)
queued_mark s c port inside k q at a = grind (arith, station_of_queue s.setup.machine c port inside, input_mark s (queue_at s.setup.machine c port) k q at a, zero-add, Among, mark)

-- an output that is found among a hand's is one of them
pub among_outs : (o : Out) (os : List Out) → list_any (out_eq o) os ≡ true → Among o os
among_outs o os has = let out = any_among (out_eq o) os has in subst (λ (p : Out). Among p os) (sym (out_eq_true o out.0 out.2)) out.1

pub held_mark : (s : State) (c : Chip) (o : Out) → IsInside s.setup.machine c → (h : Hand) →
    slice_get s.hands (index_of s.setup.machine c) ≡ Some (Some h) → Among o h.outs → Among (mark h.copy (in_hand c o)) (marks_of s)
held_mark s c o inside h at a =
    let i : ℕ = index_of s.setup.machine c in
    let y : Mark = mark h.copy (in_hand c o) in
    let here : Among y (hand_marks (chip_of s.setup.machine i) (Some h)) =
    subst (λ (d : Chip). Among y (hand_marks d (Some h))) (sym (chip_of-index_of s.setup.machine c inside)) (map_among (λ p. mark h.copy (in_hand c p)) o h.outs a) in
    among_right y (unsent_marks s) (behind_unsent s) (among_right y (input_marks s) (behind_inputs s) (among_left y (all_hand_marks s) (behind_hands s)
    (gathered_among (λ n (l : Option Hand). hand_marks (chip_of s.setup.machine n) l) y s.hands i (Some h) at here)))

pub core_mark : (s : State) (v : ℕ) (k : McCopy) (q : List McCopy) → slice_get s.cores v ≡ Some q → Among k q →
    Among (mark k (at_core v)) (marks_of s)
core_mark s v k q at a =
    let y : Mark = mark k (at_core v) in
    among_right y (unsent_marks s) (behind_unsent s) (among_right y (input_marks s) (behind_inputs s) (among_right y (all_hand_marks s) (behind_hands s)
    (among_left y (core_marks s) (delivered_marks s ++ dumped_marks s)
    (gathered_among (λ n (l : List McCopy). marks_at (at_core n) l) y s.cores v q at (map_among (λ (c : McCopy). mark c (at_core v)) k q a)))))

pub delivered_mark : (s : State) (d : Delivery) → Among d s.delivered → Among (mark d.copy (delivered d.vertex)) (marks_of s)
delivered_mark s d a = grind (arith, mark d.copy (delivered d.vertex), behind_unsent s, behind_inputs s, behind_hands s, among_right, among_left, map_among)

pub dumped_mark : (s : State) (r : DumpRec) → Among r s.dumped → Among (mark r.copy (dumped r.chip r.out)) (marks_of s)
dumped_mark s r a = grind (arith, mark r.copy (dumped r.chip r.out), behind_unsent s, behind_inputs s, behind_hands s, among_right, map_among)
