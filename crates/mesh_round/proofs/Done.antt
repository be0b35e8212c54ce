-- What one thing that was done tells of a chip's ports, its vertices and an output of it.
use Rattle.mesh_round.proofs.Common.{Bool, ByLink, Chip, Delivery, Dir, DumpRec, Dumped, IsDoneOn, IsInside, IsLiveChip, IsLiveIndex, IsLiveLink, IsVertexOn, Item, List, Local, McCopy, None, Option}
use Rattle.mesh_round.proofs.Common.{Out, Port, Sent, Served, Service, Setup, Some, [], all_ports, and_from, and_parts, answers_none, ap, append-nil, arith, behind, brought, by_wire, cases_Bool}
use Rattle.mesh_round.proofs.Common.{cases_eq, chip_eq, chip_eq_same, chip_eq_true, chip_of, chip_of-index_of, cond, cond-false, cond-true, delivered_of, dumped_of, elsewhere, entered_by, eq-eqb}
use Rattle.mesh_round.proofs.Common.{false, false_from_ne_true, filter, flat_map, gathered, get_or_from_slice_get, getting_of, got, here, index_of, index_of-chip_of, injection_place, inl, inr}
use Rattle.mesh_round.proofs.Common.{left_by, live_inside, lost, lost_by, map, ne_eqb, no_injection, not, not_there, of_chip, one_output, out_eq, out_eq_same, out_eq_true, place_behind, port_below}
use Rattle.mesh_round.proofs.Common.{port_is_no_vertex, port_number, port_number-port_of, port_of-port_number, port_place, queue_at, recorded, refl, sending_of, sent, sent_in, served, service_of}
use Rattle.mesh_round.proofs.Common.{slice_get, slice_get-get_or, slice_get_within, subst, sym, taking_of, there, took, true, vertex_place, where_same, where_there, ℕ, ◌&&◌, ◌*◌, ◌++◌, ◌+◌, ◌==◌, ◌∙◌}
use Rattle.mesh_round.proofs.Common.{◌∷◌, ◌≡◌}
use Rattle.mesh_round.proofs.{Ends.one_port, Joined.gathered_none, Joined.gathered_one, Serving.went_on, Serving.fell}

-- ---- ports by their numbers

port_at : (p : Port) → slice_get all_ports (port_number p) ≡ Some p
port_at p = slice_get-get_or all_ports (port_number p) Local (port_below p) ∙ ap Some (port_of-port_number p)

number_at : (i : ℕ) (p : Port) → slice_get all_ports i ≡ Some p → port_number p ≡ i
number_at i p at = ap port_number (sym (get_or_from_slice_get all_ports i p Local at)) ∙ port_number-port_of i (slice_get_within all_ports i p at)

-- ---- copies of records and deliveries

-- the copies of deliveries to a vertex
abbrev pub copies_to : ℕ → List Delivery → List McCopy
copies_to v ds = map (λ (d : Delivery). d.copy) (filter (λ (d : Delivery). d.vertex == v) ds)

-- those of records of an output of a chip
abbrev pub copies_at : Chip → Out → List DumpRec → List McCopy
copies_at c o rs = map (λ (r : DumpRec). r.copy) (filter (λ (r : DumpRec). chip_eq r.chip c && out_eq r.out o) rs)

module _ (u : Setup) where
  pub inside_of : (j : ℕ) (e : Chip) → IsLiveIndex u j → e ≡ chip_of u.machine j → IsInside u.machine e
  inside_of j e live is = subst (IsInside u.machine) (sym is) (live_inside u.machine (chip_of u.machine j) live.live)

  -- the place of a port of a chip, by its index
  pub place_is : (j : ℕ) (p : Port) → port_place j p ≡ queue_at u.machine (chip_of u.machine j) p
  place_is j p = ap (λ i. 7 * i + port_number p) (sym (index_of-chip_of u.machine j))

  -- what left a vertex's queue was delivered to it
  pub collected_by : (v : ℕ) (x : Item) → IsDoneOn u x → left_by (vertex_place u v) x ≡ copies_to v (delivered_of x)
  collected_by v (took j p k) live = elsewhere (port_place j p) _ (k ∷ []) (λ e. port_is_no_vertex u (chip_of u.machine j) p v (inside_of j (chip_of u.machine j) live refl) (sym (place_is j p) ∙ e))
  collected_by v (served j e place s) done = refl
  collected_by v (sent j w k) done = refl
  collected_by v (got j w place k) (live, on, is) = grind (arith, cases_eq, here, eq-eqb, elsewhere, ne_eqb)

  module _ (c : Chip) (inside : IsInside u.machine c) where
    abbrev pub index : ℕ
    index = index_of u.machine c

    -- the chip that did it is this one or another
    data Doer (j : ℕ) : Type 0 where
      this : j ≡ index → chip_of u.machine j ≡ c → Doer j
      other : (j ≡ index → ⊥) → (chip_of u.machine j ≡ c → ⊥) → Doer j

    doer : (j : ℕ) → Doer j
    doer j = grind (arith, cases_eq j index, chip_of-index_of u.machine c inside, index_of-chip_of u.machine j)

    -- ---- ports

    -- what left the queues of the chip's ports was taken by its router
    pub taken_by : (leaves : Port → McCopy → Bool) (x : Item) → IsDoneOn u x →
        gathered (λ i port. filter (leaves port) (left_by (queue_at u.machine c port) x)) 0 all_ports ≡ flat_map (λ t. filter (leaves t.0) (t.1 ∷ [])) (taking_of index x)
    taken_by leaves (took j p k) live = elim (doer j) [
      | this same is ↦
          gathered_one at 0 all_ports (port_number p) (port_number p) p (port_at p) (omega arith) (λ i port at_i apart.
          none port (λ e. let number = number_at i port at_i in apart (omega (arith, e, same, number))))
          ∙ (ap (filter (leaves p)) (here (port_place j p) (queue_at u.machine c p) (k ∷ []) (ap (λ i. 7 * i + port_number p) same))
          ∙ (sym (append-nil (filter (leaves p) (k ∷ []))) ∙ sym (ap all (here j index ((p, k) ∷ []) same))))
      | other apart not ↦
          gathered_none at 0 all_ports (λ i port at_i. none port (λ e.
          apart (omega (arith, e, port_below p, port_below port))))
          ∙ sym (ap all (elsewhere j index ((p, k) ∷ []) apart))
    ]
      where
        at : ℕ → Port → List McCopy
        at i port = filter (leaves port) (where_same (port_place j p) (queue_at u.machine c port) (k ∷ []))

        all : List (Port × McCopy) → List McCopy
        all ts = flat_map (λ t. filter (leaves t.0) (t.1 ∷ [])) ts

        none : (port : Port) → (port_place j p ≡ queue_at u.machine c port → ⊥) → filter (leaves port) (where_same (port_place j p) (queue_at u.machine c port) (k ∷ [])) ≡ []
        none port apart = ap (filter (leaves port)) (elsewhere (port_place j p) (queue_at u.machine c port) (k ∷ []) apart)
    taken_by leaves (served j e place s) done = gathered_none (λ i port. filter (leaves port) []) 0 all_ports (λ i port at. refl)
    taken_by leaves (sent j v k) done = gathered_none (λ i port. filter (leaves port) []) 0 all_ports (λ i port at. refl)
    taken_by leaves (got j v place k) (live, on, is) =
        gathered_none (λ i port. filter (leaves port) (where_same place (queue_at u.machine c port) (k ∷ []))) 0 all_ports (λ i port at.
        ap (filter (leaves port)) (elsewhere place (queue_at u.machine c port) (k ∷ []) (λ e. port_is_no_vertex u c port v inside (sym e ∙ is))))

    -- what its bank sent entered its injection queue
    pub injected_by : (x : Item) → IsDoneOn u x → entered_by (queue_at u.machine c Local) x ≡ sending_of index x
    injected_by x its_1 = grind (arith, inside_of, not_there, no_injection, cases_eq, here, elsewhere)

    -- nothing entered the queue of a port to which no live link leads, and that is not its live chip's own
    pub not_entered : (port : Port) → ((d : Dir) → port ≡ ByLink d → IsLiveLink u.machine c d → ⊥) → (port ≡ Local → IsLiveChip u.machine c → ⊥) →
        (x : Item) → IsDoneOn u x → entered_by (queue_at u.machine c port) x ≡ []
    not_entered port no_wire no_chip (took j p k) done = refl
    not_entered port no_wire no_chip (served j e place s) (live, chip, behind, is, dark) =
        not_there place _ (brought s s.fate) (λ at. let wire = by_wire u e c s.out port (inside_of j e live chip) inside (sym behind ∙ at) in no_wire wire.0 wire.1 wire.2)
    not_entered port no_wire no_chip (sent j v k) (live, on) =
        elsewhere (injection_place j) (queue_at u.machine c port) (k ∷ []) (λ e.
        let one = one_port u.machine (chip_of u.machine j) c Local port (inside_of j (chip_of u.machine j) live refl) inside (sym (place_is j Local) ∙ e) in
        no_chip (sym one.1) (subst (IsLiveChip u.machine) one.0 live.live))
    not_entered port no_wire no_chip (got j v place k) done = refl

    -- ---- vertices

    of_vertex : (told : ℕ → List McCopy) (j v : ℕ) (k : McCopy) → IsVertexOn u j v → told v ≡ k ∷ [] → ((w : ℕ) → (v ≡ w → ⊥) → told w ≡ []) →
        gathered (λ w spot. of_chip c spot (told w)) 0 u.spots ≡ where_same j index (k ∷ [])
    of_vertex told j v k on own others = grind (arith, gathered_one, doer, cond-true, chip_eq_same, here, cond-false, false_from_ne_true, chip_eq_true, elsewhere)

    -- what the vertices of the chip sent its bank sent
    pub sent_by_bank : (x : Item) → IsDoneOn u x → gathered (λ v spot. of_chip c spot (sent_in v x)) 0 u.spots ≡ sending_of index x
    sent_by_bank (took j p k) done = gathered_none (λ v spot. of_chip c spot []) 0 u.spots (λ i spot at. refl)
    sent_by_bank (served j e place s) done = gathered_none (λ v spot. of_chip c spot []) 0 u.spots (λ i spot at. refl)
    sent_by_bank (sent j v k) (live, on) = of_vertex (λ w. where_same v w (k ∷ [])) j v k on (here v v (k ∷ []) refl) (λ w apart. elsewhere v w (k ∷ []) apart)
    sent_by_bank (got j v place k) done = gathered_none (λ v spot. of_chip c spot []) 0 u.spots (λ i spot at. refl)

    -- what they got it took
    pub got_by_bank : (x : Item) → IsDoneOn u x → gathered (λ v spot. of_chip c spot (copies_to v (delivered_of x))) 0 u.spots ≡ getting_of index x
    got_by_bank (took j p k) done = gathered_none (λ v spot. of_chip c spot []) 0 u.spots (λ i spot at. refl)
    got_by_bank (served j e place s) done = gathered_none (λ v spot. of_chip c spot []) 0 u.spots (λ i spot at. refl)
    got_by_bank (sent j v k) done = gathered_none (λ v spot. of_chip c spot []) 0 u.spots (λ i spot at. refl)
    got_by_bank (got j v place k) (live, on, is) =
        of_vertex (λ w. copies_to w (record { vertex = v; copy = k } ∷ [])) j v k on (ap to (eq-eqb v v refl)) (λ w apart. ap to (ne_eqb v w apart))
      where
        to : Bool → List McCopy
        to b = map (λ (d : Delivery). d.copy) (cond b (record { vertex = v; copy = k } ∷ []) [])

    -- ---- an output

    module _ (o : Out) where
      -- what was served at the output
      abbrev pub service_at : Item → List Service
      service_at x = filter (λ (s : Service). out_eq o s.out) (service_of index x)

      -- what was served was served at the output, or elsewhere
      data Serves (j : ℕ) (e : Chip) (place : Option ℕ) (s : Service) : Type 0 where
        own : service_at (served j e place s) ≡ s ∷ [] → e ≡ c → s.out ≡ o → place ≡ place_behind u c o → Serves j e place s
        off : service_at (served j e place s) ≡ [] → ((q : ℕ) → place ≡ Some q → place_behind u c o ≡ Some q → ⊥) → (e ≡ c → s.out ≡ o → ⊥) → Serves j e place s

      serves : (j : ℕ) (e : Chip) (place : Option ℕ) (s : Service) → IsDoneOn u (served j e place s) → Serves j e place s
      serves j e place s (live, chip, behind, is, dark) = elim (doer j) [
        | this same at ↦ elim (cases_Bool (out_eq o s.out)) [
          | inl own_out ↦
              let out : s.out ≡ o = sym (out_eq_true o s.out own_out) in
              own (ap of (here j index (s ∷ []) same) ∙ cond-true (out_eq o s.out) (s ∷ []) [] own_out) (chip ∙ at) out
              (behind ∙ (ap (λ x. place_behind u x s.out) (chip ∙ at) ∙ ap (place_behind u c) out))
          | inr other_out ↦
              let apart : s.out ≡ o → ⊥ = λ out. answers_none (out_eq o s.out) (ap (out_eq o) out ∙ out_eq_same o) other_out in
              off (ap of (here j index (s ∷ []) same) ∙ cond-false (out_eq o s.out) (s ∷ []) [] other_out)
              (λ q here_q there_q. apart (one_output u e c s.out o q (inside_of j e live chip) inside (sym behind ∙ here_q) there_q).1) (λ is_c. apart)
        ]
        | other apart not ↦
            off (ap of (elsewhere j index (s ∷ []) apart))
            (λ q here_q there_q. not (sym chip ∙ (one_output u e c s.out o q (inside_of j e live chip) inside (sym behind ∙ here_q) there_q).0)) (λ is_c out. not (sym chip ∙ is_c))
      ]
        where
          of : List Service → List Service
          of ss = filter (λ (s : Service). out_eq o s.out) ss

      -- what was made of it at the queue behind the output was made of what was served there
      made_by : (made : Service → Served → List McCopy) (q : ℕ) → place_behind u c o ≡ Some q → (j : ℕ) (e : Chip) (place : Option ℕ) (s : Service) → IsDoneOn u (served j e place s) →
          where_there place q (made s s.fate) ≡ flat_map (λ x. made x x.fate) (service_at (served j e place s))
      made_by made q at j e place s done = elim (serves j e place s done) [
        | own one chip out behind ↦ there place q (made s s.fate) (behind ∙ at) ∙ (sym (append-nil (made s s.fate)) ∙ sym (ap (flat_map (λ x. made x x.fate)) one))
        | off none apart never ↦ not_there place q (made s s.fate) (λ e. apart q e at) ∙ sym (ap (flat_map (λ x. made x x.fate)) none)
      ]

      pub entered_behind : (q : ℕ) → place_behind u c o ≡ Some q → (x : Item) → IsDoneOn u x → entered_by q x ≡ went_on (service_at x)
      entered_behind q at (took j p k) done = refl
      entered_behind q at (served j e place s) done = made_by brought q at j e place s done
      entered_behind q at (sent j v k) (live, on) =
          elsewhere (injection_place j) _ (k ∷ []) (λ e. no_injection u c (chip_of u.machine j) o inside (inside_of j (chip_of u.machine j) live refl) (at ∙ ap Some (sym e ∙ place_is j Local)))
      entered_behind q at (got j v place k) done = refl

      pub lost_behind : (q : ℕ) → place_behind u c o ≡ Some q → (x : Item) → IsDoneOn u x → lost_by q x ≡ fell (service_at x)
      lost_behind q at (took j p k) done = refl
      lost_behind q at (served j e place s) done = made_by lost q at j e place s done
      lost_behind q at (sent j v k) done = refl
      lost_behind q at (got j v place k) done = refl

      -- nothing went on by an output behind which no queue stands
      pub none_went : place_behind u c o ≡ None → (x : Item) → IsDoneOn u x → went_on (service_at x) ≡ []
      none_went at (took j p k) done = refl
      none_went at (served j e place s) done = grind (arith, serves j e place s done, went_on)
      none_went at (sent j v k) done = refl
      none_went at (got j v place k) done = refl

      -- the records of the output are of what was dumped there
      pub recorded_at : (x : Item) → IsDoneOn u x → copies_at c o (dumped_of x) ≡ fell (service_at x)
      recorded_at (took j p k) done = refl
      recorded_at (served j e place s) done = elim (serves j e place s done) [
        | own one chip out behind ↦ at_own s.fate (and_from (chip_eq e c) (out_eq s.out o) (ap (λ x. chip_eq x c) chip ∙ chip_eq_same c) (ap (λ x. out_eq x o) out ∙ out_eq_same o)) ∙ sym (ap fell one)
        | off none apart never ↦
            at_other s.fate (false_from_ne_true (chip_eq e c && out_eq s.out o) (λ is.
            let parts = and_parts (chip_eq e c) (out_eq s.out o) is in
            never (chip_eq_true e c parts.0) (out_eq_true s.out o parts.1))) ∙ sym (ap fell none)
      ]
        where
          r : DumpRec
          r = record { chip = e; out = s.out; copy = s.copy }

          copy : Bool → List McCopy
          copy b = map (λ (r : DumpRec). r.copy) (cond b (r ∷ []) [])

          at_own : (f : Served) → (chip_eq e c && out_eq s.out o) ≡ true → copies_at c o (recorded e s f) ≡ lost s f ++ []
          at_own Sent is = refl
          at_own Dumped is = ap copy is

          at_other : (f : Served) → (chip_eq e c && out_eq s.out o) ≡ false → copies_at c o (recorded e s f) ≡ []
          at_other Sent is = refl
          at_other Dumped is = ap copy is
      recorded_at (sent j v k) done = refl
      recorded_at (got j v place k) done = refl
