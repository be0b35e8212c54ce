-- What passes the queues of a mesh in a round is a bag of moves.
use Rattle.mesh_round.proofs.Common.{All, All-at, All-contains, Among, Bag, Bool, Chip, Contains-filter, Delivery, DumpRec, Flow, HasMoved, HasNoHand, IsLiveChip, IsMesh, IsMoveOf, IsOutput, IsSite}
use Rattle.mesh_round.proofs.Common.{List, Local, Mark, McCopy, Moved, None, Out, Passes, Queue, Setup, Some, Spot, State, Station, [], all_hand_marks, all_once, all_outs, among_contains, among_left}
use Rattle.mesh_round.proofs.Common.{among_map, ap, append-nil, ap₂, arith, at_core, at_port, behind, chip_eq, chip_eq_true, chip_of, cond, contains_among, core, core_marks, count_by, count_by-append}
use Rattle.mesh_round.proofs.Common.{count_by-le-length, count_come, count_left, counted, delivered, delivered_marks, delivered_to, dumped, dumped_marks, eqb-true, filter, gathered, gathered_of_none}
use Rattle.mesh_round.proofs.Common.{hand_marks, in_hand, in_queue, inl, input, input_marks, inr, last_hop, length, length-filter, length-map, live_inside, map, map-append, map_among, mark, marks_at}
use Rattle.mesh_round.proofs.Common.{marks_of, nat_eq_same, nowhere, of_chip, onward, out_eq_true, outputs, port_of, range_with_len, refl, rules, sent_on, site_parts, slice_get, slice_get_there}
use Rattle.mesh_round.proofs.Common.{slice_get_within, slice_index_or, subst, suc, sum_by, sum_by-IsPermutation, sum_by-append, sum_by-cons, sym, true, unsent, unsent_marks, ℕ, ◌%◌, ◌*◌, ◌++◌, ◌+◌}
use Rattle.mesh_round.proofs.Common.{◌/◌, ◌<◌, ◌==◌, ◌∙◌, ◌∷◌, ◌≡◌, ◌≢◌, ◌≤◌}
use Rattle.mesh_round.proofs.{CountSums.one_if, CountSums.part_of_sum, CountSums.part_of_sum_at, Sums.sum_agree, Sums.sum_none, Sums.sum_map, Sums.sum_filter, Sums.sum_swap, Sums.sum_plus}
use Rattle.mesh_round.proofs.{Sums.sum_single, Sums.sum_gathered, Sums.sum_at, Sums.sum_at-swap, Sums.one_item, Balance.balance_of_queues, Balance.passing, Balance.passing_in, Sources.number_in_range}
use Rattle.mesh_round.proofs.{Sources.once_in_range, Sources.range_parts, Sources.live_chips, Sources.live_of_live_chips, Sources.live_chip_once, Sources.choices, Sources.sum_sources, Entered.from}
use Rattle.mesh_round.proofs.{Entered.station_of, Entered.station_is, Entered.crosses_behind, Entered.came, Entered.all_came, Entered.has_bit, Past.is_step, Past.is_step_at, Past.left_move}
use Rattle.mesh_round.proofs.{Parts.Part, Parts.both_parts, Parts.part_each, Parts.part_at, Parts.part_of, Parts.part_one, Weights.back, Weights.entered_is, Taken.weight, Taken.taken_from}
use Rattle.mesh_round.proofs.Taken.{hands_balance}

-- the sum over the places of a list
sum_at-range : {X : Type 0} (g : ℕ → ℕ) (a : ℕ) (xs : List X) → sum_at (λ i x. g i) a xs ≡ sum_by g (range_with_len a (length xs))
sum_at-range g a [] = refl
sum_at-range g a (x ∷ xs) = grind (arith, sum_at-range g (a + 1) xs, sum_by-cons g a (range_with_len (a + 1) (length xs)))

sum_at-agree : {X : Type 0} (h k : ℕ → X → ℕ) (a : ℕ) (xs : List X) → ((i : ℕ) (x : X) → slice_get xs i ≡ Some x → h (a + i) x ≡ k (a + i) x) → sum_at h a xs ≡ sum_at k a xs
sum_at-agree h k a [] same = refl
sum_at-agree h k a (x ∷ xs) same =
    let here : a + 0 ≡ a = omega arith in
    let first = subst (λ j. h j x ≡ k j x) here (same 0 x refl) in
    let rest = sum_at-agree h k (a + 1) xs (λ i y at.
    let next : a + suc i ≡ (a + 1) + i = omega arith in
    subst (λ j. h j y ≡ k j y) next (same (suc i) y at)) in
    omega (arith, first, rest)

module _ (m : State) (f : Flow) (n : State) (mesh : IsMesh m) (after : IsMesh n) (passes : Passes m f n) where
  abbrev u : Setup
  u = m.setup

  abbrev places : List ℕ
  places = range_with_len 0 (7 * (u.machine.width * u.machine.height))

  -- the marks in a hand of a copy of a port's queue, and how many of all that are taken pass a test
  abbrev taken_marks : ℕ → McCopy → List Mark
  taken_marks i k = map (λ o. mark k (in_hand (chip_of u.machine (i / 7)) o)) (outputs u (chip_of u.machine (i / 7)) (port_of (i % 7)) k)

  abbrev taken_come : (Mark → Bool) → ℕ → ℕ
  taken_come p i = sum_by (λ k. count_by p (taken_marks i k)) (f.left (input i))

  -- the copies that cross an output, as they were before, and how many of their marks pass a test before and afterwards
  abbrev crossing : Chip → Out → List McCopy
  crossing c o = map back (f.entered (behind u c o))

  abbrev crossed_left : (Mark → Bool) → Chip → Out → ℕ
  crossed_left p c o = count_by p (marks_at (in_hand c o) (crossing c o))

  abbrev crossed_come : (Mark → Bool) → Chip → Out → ℕ
  crossed_come p c o = sum_by (λ k. count_by p (mark (onward k) (station_of u (behind u c o)) ∷ [])) (crossing c o)

  -- ---- the moves

  sent_small : (v : ℕ) → v < length u.spots → (k : McCopy) → Among k (f.sent v) → k.hop ≤ last_hop
  sent_small v below k a =
      let there : v < length m.unsent = omega (arith, below, mesh.unsent_lists) in
      let zero : k.hop ≡ 0 = All-contains (λ (j : McCopy). j.hop ≡ 0) (f.sent v ++ slice_index_or n.unsent v []) k
      (subst (All (λ (j : McCopy). j.hop ≡ 0)) (passes.unsent v below) (mesh.unsent_at_start v [] there))
      (among_contains k (f.sent v ++ slice_index_or n.unsent v []) (among_left k (f.sent v) (slice_index_or n.unsent v []) a)) in
      omega (arith, zero)

  sent_part : Part m (λ p. sum_at (λ v spot. count_by p (marks_at (unsent v) (f.sent v))) 0 u.spots)
      (λ p. sum_at (λ v (spot : Spot). sum_by (λ k. count_by p (mark k (in_queue spot.chip Local) ∷ [])) (f.sent v)) 0 u.spots)
  sent_part =
      part_at (λ v spot p. count_by p (marks_at (unsent v) (f.sent v))) (λ v (spot : Spot) p. sum_by (λ k. count_by p (mark k (in_queue spot.chip Local) ∷ [])) (f.sent v)) 0 u.spots
      (λ v spot at.
      let here : v ≡ 0 + v = omega arith in
      subst (λ w. Part m (λ p. count_by p (marks_at (unsent w) (f.sent w))) (λ p. sum_by (λ k. count_by p (mark k (in_queue spot.chip Local) ∷ [])) (f.sent w))) here
      (part_of (unsent v) (λ k. mark k (in_queue spot.chip Local) ∷ []) (f.sent v) (λ k a. ((spot, at, refl), sent_small v (slice_get_within u.spots v spot at) k a))))

  left_small : (q : Queue) (k : McCopy) → Among k (f.left q) → k.hop ≤ last_hop
  left_small q k a = All-contains (λ (j : McCopy). j.hop ≤ last_hop) (f.left q) k (passes.hops q) (among_contains k (f.left q) a)

  taken_part : Part m (λ p. sum_by (λ i. count_by p (marks_at (station_of u (input i)) (f.left (input i)))) places) (λ p. sum_by (λ i. taken_come p i) places)
  taken_part =
      part_each (λ i p. count_by p (marks_at (station_of u (input i)) (f.left (input i)))) (λ i p. taken_come p i) places
      (λ i a. part_of (station_of u (input i)) (λ k. taken_marks i k) (f.left (input i)) (λ k b. (refl, left_small (input i) k b)))

  crossed_part : Part m (λ p. sum_by (λ c. sum_by (λ o. crossed_left p c o) all_outs) (live_chips u.machine))
      (λ p. sum_by (λ c. sum_by (λ o. crossed_come p c o) all_outs) (live_chips u.machine))
  crossed_part =
      part_each (λ c p. sum_by (λ o. crossed_left p c o) all_outs) (λ c p. sum_by (λ o. crossed_come p c o) all_outs) (live_chips u.machine)
      (λ c a. part_each (λ o p. crossed_left p c o) (λ o p. crossed_come p c o) all_outs
      (λ o b. part_of (in_hand c o) (λ k. mark (onward k) (station_of u (behind u c o)) ∷ []) (crossing c o)
      (λ k d. crosses c o (live_of_live_chips u.machine c a) (has_bit o b) k d)))
    where
      crosses : (c : Chip) (o : Out) → IsLiveChip u.machine c → IsOutput o → (k : McCopy) → Among k (crossing c o) →
          IsMoveOf m k (in_hand c o) (mark (onward k) (station_of u (behind u c o)) ∷ []) × (k.hop ≤ last_hop)
      crosses c o live is k a =
          let of = among_map back k (f.entered (behind u c o)) a in
          let small : k.hop ≤ last_hop = subst (λ (j : McCopy). j.hop ≤ last_hop) (sym of.2) (omega (arith, (entered_is m f n passes c o live is of.0 of.1).1)) in
          (inr (crosses_behind m k c o live (λ none. subst (λ xs. Among of.0 xs) (ap f.entered none ∙ passes.nowhere_empty) of.1)), small)

  dumped_part : Part m (λ p. sum_by (λ (r : DumpRec). count_by p (mark r.copy (in_hand r.chip r.out) ∷ [])) f.dumped)
      (λ p. sum_by (λ (r : DumpRec). count_by p (mark r.copy (dumped r.chip r.out) ∷ [])) f.dumped)
  dumped_part = part_one (λ (r : DumpRec). r.copy) (λ (r : DumpRec). in_hand r.chip r.out) (λ (r : DumpRec). dumped r.chip r.out) f.dumped (λ r a.
      let fits = All-contains (λ (s : DumpRec). IsLiveChip u.machine s.chip × IsOutput s.out × (s.copy.hop < last_hop)) f.dumped r passes.at_outputs (among_contains r f.dumped a) in
      (inl refl, omega (arith, fits.2)))

  delivered_small : (d : Delivery) → Among d f.delivered → d.copy.hop ≤ last_hop
  delivered_small d a =
      let below = All-contains (λ (e : Delivery). e.vertex < length u.spots) f.delivered d passes.to_vertices (among_contains d f.delivered a) in
      let mine = Contains-filter (λ (e : Delivery). e.vertex == d.vertex) f.delivered d (among_contains d f.delivered a) (nat_eq_same d.vertex) in
      let there : Among d.copy (delivered_to f d.vertex) = map_among (λ (e : Delivery). e.copy) d (filter (λ (e : Delivery). e.vertex == d.vertex) f.delivered)
      (contains_among d (filter (λ (e : Delivery). e.vertex == d.vertex) f.delivered) mine) in
      left_small (core d.vertex) d.copy (subst (λ xs. Among d.copy xs) (passes.collected d.vertex below) there)

  delivered_part : Part m (λ p. sum_by (λ (d : Delivery). count_by p (mark d.copy (at_core d.vertex) ∷ [])) f.delivered)
      (λ p. sum_by (λ (d : Delivery). count_by p (mark d.copy (delivered d.vertex) ∷ [])) f.delivered)
  delivered_part = part_one (λ (d : Delivery). d.copy) (λ (d : Delivery). at_core d.vertex) (λ (d : Delivery). delivered d.vertex) _ (λ d a. (refl, delivered_small d a))

  module _ (p : Mark → Bool) where
    abbrev came_in : Queue → ℕ
    came_in q = came p m f n mesh passes q

    abbrev vertices : List ℕ
    vertices = range_with_len 0 (length u.spots)

    single : (k : Mark) → count_by p (k ∷ []) ≡ one_if (p k)
    single k = sum_single (λ x. one_if (p x)) k

    -- ---- what came

    came_by_parts : sum_by (λ c. came_in (at_port u c Local)) (live_chips u.machine) + sum_by (λ c. sum_by (λ o. came_in (behind u c o)) all_outs) (live_chips u.machine)
        ≡ sum_by (λ i. came_in (input i)) places + sum_by (λ v. came_in (core v)) vertices
    came_by_parts =
        sym (sum_plus (λ c. came_in (at_port u c Local)) (λ c. sum_by (λ o. came_in (behind u c o)) all_outs) (live_chips u.machine))
        ∙ (sum_agree (λ c. came_in (at_port u c Local) + sum_by (λ o. came_in (behind u c o)) all_outs) (λ c. sum_by (λ x. came_in (from u (c, x))) choices) (live_chips u.machine)
        (λ c a. sym (at_chip c))
        ∙ (sym (sum_sources u.machine (λ s. came_in (from u s)))
        ∙ (all_came p m f n mesh passes
        ∙ (sum_by-append came_in (map input places) (map core vertices)
        ∙ ap₂ (λ (a b : ℕ). a + b) (sum_map input came_in places) (sum_map core came_in vertices)))))
      where
        at_chip : (c : Chip) → sum_by (λ x. came_in (from u (c, x))) choices ≡ came_in (at_port u c Local) + sum_by (λ o. came_in (behind u c o)) all_outs
        at_chip c = search (rules, sum_by-cons, from, sum_map)

    -- what entered injection queues is what vertices sent
    injected_is : sum_by (λ c. came_in (at_port u c Local)) (live_chips u.machine) ≡ sum_at (λ v (spot : Spot). sum_by (λ k. count_by p (mark k (in_queue spot.chip Local) ∷ [])) (f.sent v)) 0 u.spots
    injected_is =
        sum_agree (λ c. came_in (at_port u c Local)) (λ c. sum_at (λ v (spot : Spot). share c v spot) 0 u.spots) (live_chips u.machine) (λ c a. at_chip c (live_of_live_chips u.machine c a))
        ∙ (sum_at-swap share 0 u.spots (live_chips u.machine)
        ∙ sum_at-agree (λ v (spot : Spot). sum_by (λ c. share c v spot) (live_chips u.machine))
        (λ v (spot : Spot). sum_by (λ k. count_by p (mark k (in_queue spot.chip Local) ∷ [])) (f.sent v)) 0 u.spots
        (λ v spot at. of_vertex (0 + v) spot (site_parts u.machine spot (All-at (IsSite u.machine) u.spots v spot mesh.sites at)).0))
      where
        into : Chip → McCopy → ℕ
        into c k = one_if (p (mark k (in_queue c Local)))

        share : Chip → ℕ → Spot → ℕ
        share c v spot = cond (chip_eq spot.chip c) (sum_by (into c) (f.sent v)) 0

        of_copies : (c : Chip) (spot : Spot) (copies : List McCopy) → sum_by (into c) (of_chip c spot copies) ≡ cond (chip_eq spot.chip c) (sum_by (into c) copies) 0
        of_copies c spot copies = grind (arith, sum_filter, into, sum_none)

        at_chip : (c : Chip) → IsLiveChip u.machine c → came_in (at_port u c Local) ≡ sum_at (λ v (spot : Spot). share c v spot) 0 u.spots
        at_chip c live =
            let station : station_of u (at_port u c Local) ≡ in_queue c Local = station_is u c Local (live_inside u.machine c live) in
            ap (λ st. count_by p (marks_at st (f.entered (at_port u c Local)))) station
            ∙ (sum_map (λ k. mark k (in_queue c Local)) (λ x. one_if (p x)) (f.entered (at_port u c Local))
            ∙ (sum_by-IsPermutation (into c) (sent_on u f c) (f.entered (at_port u c Local)) (passes.injected c live)
            ∙ (sum_gathered (into c) (λ v spot. of_chip c spot (f.sent v)) 0 u.spots
            ∙ sum_at-agree (λ v spot. sum_by (into c) (of_chip c spot (f.sent v))) (λ v (spot : Spot). share c v spot) 0 u.spots (λ v spot at. of_copies c spot (f.sent (0 + v))))))

        of_vertex : (v : ℕ) (spot : Spot) → IsLiveChip u.machine spot.chip →
            sum_by (λ c. share c v spot) (live_chips u.machine) ≡ sum_by (λ k. count_by p (mark k (in_queue spot.chip Local) ∷ [])) (f.sent v)
        of_vertex v spot live =
            one_item (chip_eq spot.chip) (λ c. sum_by (into c) (f.sent v)) (sum_by (into spot.chip) (f.sent v)) (live_chips u.machine)
            (λ c here. ap (λ (e : Chip). sum_by (into e) (f.sent v)) (sym (chip_eq_true spot.chip c here))) (live_chip_once u.machine spot.chip live)
            ∙ sum_agree (into spot.chip) (λ k. count_by p (mark k (in_queue spot.chip Local) ∷ [])) (f.sent v) (λ k a. sym (single (mark k (in_queue spot.chip Local))))

    -- what came across outputs is what entered the queues behind them
    crossed_is : sum_by (λ c. sum_by (λ o. crossed_come p c o) all_outs) (live_chips u.machine)
        ≡ sum_by (λ c. sum_by (λ o. came_in (behind u c o)) all_outs) (live_chips u.machine)
    crossed_is =
        sum_agree (λ c. sum_by (λ o. crossed_come p c o) all_outs) (λ c. sum_by (λ o. came_in (behind u c o)) all_outs) (live_chips u.machine)
        (λ c a. sum_agree (λ o. crossed_come p c o) (λ o. came_in (behind u c o)) all_outs (λ o b. at_output c o (live_of_live_chips u.machine c a) (has_bit o b)))
      where
        at_output : (c : Chip) (o : Out) → IsLiveChip u.machine c → IsOutput o → crossed_come p c o ≡ came_in (behind u c o)
        at_output c o live is =
            let st = station_of u (behind u c o) in
            let entered = f.entered (behind u c o) in
            sum_map back (λ k. count_by p (mark (onward k) st ∷ [])) entered
            ∙ (sum_agree (λ k. count_by p (mark (onward (back k)) st ∷ [])) (λ k. one_if (p (mark k st))) entered
            (λ k a. single (mark (onward (back k)) st) ∙ ap (λ (j : McCopy). one_if (p (mark j st))) (entered_is m f n passes c o live is k a).0)
            ∙ sym (sum_map (λ k. mark k st) (λ x. one_if (p x)) entered))

    -- ---- hands

    hands_even : sum_by (λ c. sum_by (λ o. crossed_left p c o) all_outs) (live_chips u.machine)
        + sum_by (λ (r : DumpRec). count_by p (mark r.copy (in_hand r.chip r.out) ∷ [])) f.dumped ≡ sum_by (λ i. taken_come p i) places
    hands_even = grind (arith, hands_balance p m f n mesh passes, taken_from p m f n mesh passes, live_chips u.machine, sum_agree, weight, count_by, sum_map, mark, one_if, single)

    -- ---- deliveries

    collected_is : sum_by (λ (d : Delivery). count_by p (mark d.copy (at_core d.vertex) ∷ [])) f.delivered ≡ sum_by (λ v. count_by p (marks_at (at_core v) (f.left (core v)))) vertices
    collected_is =
        sum_agree (λ (d : Delivery). count_by p (mark d.copy (at_core d.vertex) ∷ [])) (λ d. sum_by (λ v. share d v) vertices) f.delivered
        (λ d a. sym (of_delivery d (All-contains (λ (e : Delivery). e.vertex < length u.spots) f.delivered d passes.to_vertices (among_contains d f.delivered a))))
        ∙ (sum_swap share f.delivered vertices
        ∙ sum_agree (λ v. sum_by (λ d. share d v) f.delivered) (λ v. count_by p (marks_at (at_core v) (f.left (core v)))) vertices (λ v a. of_vertex v (below v a)))
      where
        at : ℕ → Delivery → ℕ
        at v d = one_if (p (mark d.copy (at_core v)))

        share : Delivery → ℕ → ℕ
        share d v = cond (d.vertex == v) (at v d) 0

        below : (v : ℕ) → Among v vertices → v < length u.spots
        below v a = omega (arith, (range_parts 0 (length u.spots) v a).1)

        of_delivery : (d : Delivery) → d.vertex < length u.spots → sum_by (λ v. share d v) vertices ≡ count_by p (mark d.copy (at_core d.vertex) ∷ [])
        of_delivery d low =
            one_item (λ v. d.vertex == v) (λ v. at v d) (at d.vertex d) vertices (λ v here. ap (λ w. at w d) (sym (eqb-true d.vertex v here)))
            (once_in_range d.vertex 0 (length u.spots) (omega arith) (omega (arith, low)))
            ∙ sym (single (mark d.copy (at_core d.vertex)))

        of_vertex : (v : ℕ) → v < length u.spots → sum_by (λ d. share d v) f.delivered ≡ count_by p (marks_at (at_core v) (f.left (core v)))
        of_vertex v low = grind (arith, at v, sum_filter, sum_map, one_if, mark)

    -- ---- lists before and after

    unsent_even : count_by p (unsent_marks m) ≡ sum_at (λ v spot. count_by p (marks_at (unsent v) (f.sent v))) 0 u.spots + count_by p (unsent_marks n)
    unsent_even =
        let same = balance_of_queues p (λ v. unsent v) (λ v. []) f.sent (length u.spots) m.unsent n.unsent mesh.unsent_lists (after.unsent_lists ∙ ap (λ (s : Setup). length s.spots) passes.setup)
        (λ v low. append-nil (slice_index_or m.unsent v []) ∙ passes.unsent v low) in
        let none = sum_none (passing p (λ v. unsent v) (λ v. []) f.sent (λ v. [])) vertices (λ v a. refl) in
        omega (arith, same, none, sum_at-range (λ v. count_by p (marks_at (unsent v) (f.sent v))) 0 u.spots)

    inputs_even : count_by p (input_marks m) + sum_by (λ i. came_in (input i)) places
        ≡ sum_by (λ i. count_by p (marks_at (station_of u (input i)) (f.left (input i)))) places + count_by p (input_marks n)
    inputs_even =
        let same = balance_of_queues p (λ i. station_of u (input i)) (λ i. f.entered (input i)) (λ i. f.left (input i)) (7 * (u.machine.width * u.machine.height)) m.inputs n.inputs mesh.input_lists
        (after.input_lists ∙ ap (λ (s : Setup). 7 * (s.machine.width * s.machine.height)) passes.setup) (λ i low. passes.in_order (input i)) in
        let marks_n : count_by p (input_marks n) ≡ passing_in p (λ i. station_of u (input i)) (λ i. f.entered (input i)) (λ i. f.left (input i)) 0 n.inputs =
        ap (λ (s : Setup). count_by p (gathered (λ i copies. marks_at (in_queue (chip_of s.machine (i / 7)) (port_of (i % 7))) copies) 0 n.inputs)) passes.setup in
        omega (arith, same, marks_n)

    cores_even : count_by p (core_marks m) + sum_by (λ v. came_in (core v)) vertices ≡ sum_by (λ v. count_by p (marks_at (at_core v) (f.left (core v)))) vertices + count_by p (core_marks n)
    cores_even =
        balance_of_queues p (λ v. at_core v) (λ v. f.entered (core v)) (λ v. f.left (core v)) (length u.spots) m.cores n.cores mesh.core_lists
        (after.core_lists ∙ ap (λ (s : Setup). length s.spots) passes.setup) (λ v low. passes.in_order (core v))

    no_hands : (s : State) → HasNoHand s → count_by p (all_hand_marks s) ≡ 0
    no_hands s none = ap (count_by p) (gathered_of_none (λ i h. hand_marks (chip_of s.setup.machine i) h) None (λ j. refl) 0 s.hands none)

    appended : {X : Type 0} (g : X → Mark) (old new all : List X) → all ≡ old ++ new → count_by p (map g all) ≡ count_by p (map g old) + sum_by (λ x. count_by p (g x ∷ [])) new
    appended g old new all is = grind (arith, count_by p, map-append g old new, count_by-append p (map g old) (map g new), count_by p (map g old), sum_map, sum_agree, one_if, single)

    delivered_even : count_by p (delivered_marks n) ≡ count_by p (delivered_marks m) + sum_by (λ (d : Delivery). count_by p (mark d.copy (delivered d.vertex) ∷ [])) f.delivered
    delivered_even = appended (λ (d : Delivery). mark d.copy (delivered d.vertex)) m.delivered f.delivered n.delivered passes.delivered

    dumped_even : count_by p (dumped_marks n) ≡ count_by p (dumped_marks m) + sum_by (λ (r : DumpRec). count_by p (mark r.copy (dumped r.chip r.out) ∷ [])) f.dumped
    dumped_even = appended (λ (r : DumpRec). mark r.copy (dumped r.chip r.out)) m.dumped f.dumped n.dumped passes.dumped

    pub in_parts : (s : State) → count_by p (marks_of s)
        ≡ count_by p (unsent_marks s) + (count_by p (input_marks s) + (count_by p (all_hand_marks s) + (count_by p (core_marks s) + (count_by p (delivered_marks s) + count_by p (dumped_marks s)))))
    in_parts s = grind (arith, count_by-append)

  -- The moves of a round.
  pub bag_of_round : Bag m n
  bag_of_round =
      let whole = both_parts sent_part (both_parts taken_part (both_parts crossed_part (both_parts dumped_part delivered_part))) in
      record {
        moves = whole.moves;
        balance = λ p.
            let leaving = whole.leaving p in
            let coming = whole.coming p in
            let before = in_parts p m in
            let later = in_parts p n in
            let hands_m = no_hands p m passes.none_before in
            let hands_n = no_hands p n passes.none_after in
            let a = unsent_even p in
            let b = inputs_even p in
            let c = cores_even p in
            let d = delivered_even p in
            let e = dumped_even p in
            omega (arith, leaving, coming, before, later, hands_m, hands_n, a, b, c, d, e, came_by_parts p, injected_is p, crossed_is p, hands_even p, collected_is p);
        setup = passes.setup;
      }

  -- ---- some moves

  all_copies : (at : Station) (ks : List McCopy) → is_step_at at ≡ true → count_by is_step (marks_at at ks) ≡ length ks
  all_copies at [] is = refl
  all_copies at (k ∷ ks) is =
      let first = sum_by-cons (λ x. one_if (is_step x)) (mark k at) (marks_at at ks) in
      let one : one_if (is_step_at at) ≡ 1 = ap one_if is in
      omega (arith, all_copies at ks is, first, one)

  some_items : {X : Type 0} (xs : List X) → xs ≢ [] → 1 ≤ length xs
  some_items [] none = absurd (none refl)
  some_items (x ∷ xs) some = omega arith

  steps : count_left is_step bag_of_round.moves
      ≡ sum_at (λ v spot. count_by is_step (marks_at (unsent v) (f.sent v))) 0 u.spots
      + (sum_by (λ i. count_by is_step (marks_at (station_of u (input i)) (f.left (input i)))) places
      + (sum_by (λ c. sum_by (λ o. crossed_left is_step c o) all_outs) (live_chips u.machine)
      + (sum_by (λ (r : DumpRec). count_by is_step (mark r.copy (in_hand r.chip r.out) ∷ [])) f.dumped
      + sum_by (λ (d : Delivery). count_by is_step (mark d.copy (at_core d.vertex) ∷ [])) f.delivered)))
  unfolding bag_of_round
  steps = (both_parts sent_part (both_parts taken_part (both_parts crossed_part (both_parts dumped_part delivered_part)))).leaving is_step

  -- where a copy moved, one was sent, taken or got
  pub some_steps : HasMoved m f → 1 ≤ count_left is_step bag_of_round.moves
  some_steps (inl (input i, is, left)) =
      let below : i < 7 * (u.machine.width * u.machine.height) = omega (arith, is, mesh.input_lists) in
      let there : Among i places = number_in_range i (7 * (u.machine.width * u.machine.height)) below in
      let some = some_items (f.left (input i)) left in
      let all = all_copies (station_of u (input i)) (f.left (input i)) refl in
      omega (arith, steps, all, some, part_of_sum (λ j. count_by is_step (marks_at (station_of u (input j)) (f.left (input j)))) i places there)
  some_steps (inl (core v, is, left)) =
      let below : v < length u.spots = omega (arith, is, mesh.core_lists) in
      let some = some_items (f.left (core v)) left in
      let same = ap length (passes.collected v below) in
      let mapped = length-map (filter (λ (d : Delivery). d.vertex == v) f.delivered) (λ (d : Delivery). d.copy) in
      let filtered = length-filter (λ (d : Delivery). d.vertex == v) f.delivered in
      let few = count_by-le-length (λ (d : Delivery). d.vertex == v) f.delivered in
      let all = sum_ones f.delivered in
      omega (arith, steps, all, some, same, mapped, filtered, few)
    where
      sum_ones : (ds : List Delivery) → sum_by (λ (d : Delivery). count_by is_step (mark d.copy (at_core d.vertex) ∷ [])) ds ≡ length ds
      sum_ones [] = refl
      sum_ones (d ∷ ds) = let rest = sum_ones ds in let first = sum_by-cons (λ (e : Delivery). count_by is_step (mark e.copy (at_core e.vertex) ∷ [])) d ds in omega (arith, rest, first)
  some_steps (inl (nowhere, is, left)) = absurd is
  some_steps (inr (v, below, sent)) =
      let some = some_items (f.sent v) sent in
      let all = all_copies (unsent v) (f.sent v) refl in
      let spot = slice_get_there u.spots v below in
      omega (arith, steps, all, some, zero_plus v, part_of_sum_at (λ w (spot : Spot). count_by is_step (marks_at (unsent w) (f.sent w))) 0 u.spots v spot.0 spot.1)
    where
      zero_plus : (w : ℕ) → count_by is_step (marks_at (unsent (0 + w)) (f.sent (0 + w))) ≡ count_by is_step (marks_at (unsent w) (f.sent w))
      zero_plus w = let same : 0 + w ≡ w = omega arith in ap (λ n. count_by is_step (marks_at (unsent n) (f.sent n))) same

  -- so there is a move
  pub some_moves : HasMoved m f → 1 ≤ length bag_of_round.moves
  some_moves moved = search (rules, left_move, is_step, some_steps, some_items, Moved, Among)

  -- ---- what came behind an output

  there : (c : Chip) → IsLiveChip u.machine c → Among c (live_chips u.machine)
  there c live =
      let found = counted (chip_eq c) (live_chips u.machine) (omega (arith, live_chip_once u.machine c live)) in
      subst (λ e. Among e (live_chips u.machine)) (sym (chip_eq_true c found.0 found.2)) found.1

  among_outs : (o : Out) → IsOutput o → Among o all_outs
  among_outs o is = grind (arith, counted, all_once, Among, out_eq_true)

  -- what entered the queue behind an output is among what came
  pub crossing_comes : (p : Mark → Bool) (c : Chip) (o : Out) → IsLiveChip u.machine c → IsOutput o →
      count_by p (marks_at (station_of u (behind u c o)) (f.entered (behind u c o))) ≤ count_come p bag_of_round.moves
  unfolding bag_of_round
  crossing_comes p c o live is = grind (arith, live_chips, count_come, both_parts, sent_part, taken_part, crossed_part, dumped_part, delivered_part, part_of_sum, there, among_outs, crossed_is)
