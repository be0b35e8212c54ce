-- A round on threads is a round.
use Rattle.mesh_round.proofs.Common.{All, Bool, ByLink, Chip, Dir, DumpRec, Hand, IsDoneOn, IsInside, IsLiveChip, IsOutput, IsPermutation, IsPermutation-map, IsPermutation-trans, IsQueueOf, IsRound}
use Rattle.mesh_round.proofs.Common.{Item, List, Local, McCopy, None, Option, Out, Passes, Port, Service, Setup, Some, [], all_ports, answers_none, ap, ap₂, arith, at_port, behind, brought, chip_eq}
use Rattle.mesh_round.proofs.Common.{chip_of, chip_of-index_of, core, count_by-le-length, delivered_of, delivered_to, dumped_at, dumped_of, entered, entered_by, false, far_inside, filter, flat_map}
use Rattle.mesh_round.proofs.Common.{flat_map_single, gathered, getting_of, gettings, got_on, index_of, inl, inr, is_live_chip, is_live_link, leaves_by, left, left_by, length, length-filter}
use Rattle.mesh_round.proofs.Common.{length-map, length-replicate, length_permutation, live_inside, lost, lost_at, lost_by, map, mul-le-mul_left, nowhere, of_chip, onward, opposite_of, out_eq}
use Rattle.mesh_round.proofs.Common.{owed_on, queue_at, queue_at-below, queue_place_of, records, refl, sending_of, sendings, sent_by, sent_in, sent_on, service_of, services, slice_get_within, subst}
use Rattle.mesh_round.proofs.Common.{sum_by, sym, taken_for, taking_of, takings, true, vertex_behind_stands, ℕ, ◌&&◌, ◌*◌, ◌++◌, ◌<◌, ◌∙◌, ◌∷◌, ◌≡◌, ◌≤◌, ◌⊎◌}
use Rattle.mesh_round.proofs.Done.{copies_at, copies_to, collected_by, entered_behind, got_by_bank, injected_by, lost_behind, none_went, not_entered, recorded_at, sent_by_bank, service_at, taken_by}
use Rattle.mesh_round.proofs.{Ends.leads, Ends.by_link, Ends.to_vertex, Ends.to_none, Joined.by_items, Joined.filter-flat, Joined.flat_agree, Joined.flat_none, Joined.flat-flat, Joined.map-flat}
use Rattle.mesh_round.proofs.{Joined.sum_lengths, PlayedQueues.in_order, PlayedQueues.full, PlayedQueues.hops_left, PlayedQueues.at_outputs, PlayedQueues.to_vertices, Serving.at_out}
use Rattle.mesh_round.proofs.{Serving.copies_of, Serving.fell, Serving.owed_at, Serving.sent_or_dumped, Serving.served_at, Serving.went_on, TheFlow.Round, TheFlow.Stands, TheFlow.found}
use Rattle.mesh_round.proofs.TheFlow.{beyond, dark, stands, by_place, told_at, goes, flow_of, nowhere_fulls}

module _ (r : Round) where
  abbrev u : Setup
  u = r.m.setup

  -- where two functions agree of each thing that was done
  all_agree : {Y : Type 0} (f g : Item → List Y) → ((x : Item) → IsDoneOn u x → f x ≡ g x) → flat_map f r.items ≡ flat_map g r.items
  all_agree f g same = flat_agree (IsDoneOn u) f g same r.items r.played.turns_are.each

  -- ---- ports

  pub is_input : (c : Chip) (port : Port) → IsInside u.machine c → IsQueueOf r.m (at_port u c port)
  is_input c port inside = let low = queue_at-below u.machine c port inside in let long = r.mesh.input_lists in omega (arith, low, long)

  pub left_port : (c : Chip) (port : Port) → IsInside u.machine c → (flow_of r).left (at_port u c port) ≡ left (queue_at u.machine c port) r.items
  left_port c port inside = told_at r (λ q. left q r.items) (at_port u c port) (queue_at u.machine c port) refl (is_input c port inside) (stands r (at_port u c port))

  pub entered_port : (c : Chip) (port : Port) → IsInside u.machine c → (flow_of r).entered (at_port u c port) ≡ entered (queue_at u.machine c port) r.items
  entered_port c port inside = told_at r (λ q. entered q r.items) (at_port u c port) (queue_at u.machine c port) refl (is_input c port inside) (stands r (at_port u c port))

  pub dead_ports : (c : Chip) (d : Dir) → IsInside u.machine c → is_live_link u.machine c d ≡ false → (flow_of r).entered (at_port u c (ByLink d)) ≡ []
  dead_ports c d inside dead =
      entered_port c (ByLink d) inside
      ∙ flat_none (IsDoneOn u) (entered_by (queue_at u.machine c (ByLink d))) (not_entered u c inside (ByLink d)
      (λ e same live. answers_none (is_live_link u.machine c d) (ap (is_live_link u.machine c) (one_wire d e same) ∙ live) dead) (λ same live. no_wire d same)) r.items r.played.turns_are.each
    where
      one_wire : (d e : Dir) → ByLink d ≡ ByLink e → d ≡ e
      one_wire d e same = cc

      no_wire : (d : Dir) → ByLink d ≡ Local → ⊥
      no_wire d same = cc

  pub dead_chips : (c : Chip) → IsInside u.machine c → is_live_chip u.machine c ≡ false → (flow_of r).entered (at_port u c Local) ≡ []
  dead_chips c inside dead =
      entered_port c Local inside
      ∙ flat_none (IsDoneOn u) (entered_by (queue_at u.machine c Local))
      (not_entered u c inside Local (λ d same live. no_wire d same) (λ same live. answers_none (is_live_chip u.machine c) live dead)) r.items r.played.turns_are.each
    where
      no_wire : (d : Dir) → Local ≡ ByLink d → ⊥
      no_wire d same = cc

  -- what the router of a chip took, port by port, and in the order in which it took it
  taken_at_ports : (leaves : Port → McCopy → Bool) (c : Chip) → IsInside u.machine c →
      IsPermutation (gathered (λ i port. filter (leaves port) ((flow_of r).left (at_port u c port))) 0 all_ports)
      (flat_map (λ t. filter (leaves t.0) (t.1 ∷ [])) (takings (index_of u.machine c) r.items))
  taken_at_ports leaves c inside =
      let each : Port × McCopy → List McCopy = λ t. filter (leaves t.0) (t.1 ∷ []) in
      subst (IsPermutation (gathered (λ i port. filter (leaves port) ((flow_of r).left (at_port u c port))) 0 all_ports)) (sym (flat-flat each (taking_of (index_of u.machine c)) r.items))
      (by_items (IsDoneOn u) (λ x i port. filter (leaves port) (left_by (queue_at u.machine c port) x)) (λ i port. filter (leaves port) ((flow_of r).left (at_port u c port)))
      (λ x. flat_map each (taking_of (index_of u.machine c) x)) 0 all_ports r.items
      (λ i port. ap (filter (leaves port)) (left_port c port inside) ∙ filter-flat (leaves port) (left_by (queue_at u.machine c port)) r.items)
      (taken_by u c inside leaves) r.played.turns_are.each)

  few_taken : (c : Chip) → IsLiveChip u.machine c → sum_by (λ port. length ((flow_of r).left (at_port u c port))) all_ports ≤ r.turns
  few_taken c live =
      let every : Port → McCopy → Bool = λ port k. true in
      let ts = takings (index_of u.machine c) r.items in
      let sum = sum_lengths (λ port. (flow_of r).left (at_port u c port)) 0 all_ports in
      let same = length_permutation (gathered (λ i port. filter (λ k. true) ((flow_of r).left (at_port u c port))) 0 all_ports) (flat_map (λ t. t.1 ∷ []) ts)
      (taken_at_ports every c (live_inside u.machine c live)) in
      let all = ap length (flat_map_single (λ (t : Port × McCopy). t.1) ts) in
      let long = length-map ts (λ (t : Port × McCopy). t.1) in
      omega (arith, sum, same, all, long, r.played.turns_are.takes (index_of u.machine c))

  -- ---- vertices

  -- what the vertices of a chip sent its bank sent, and what they got it took
  sent_spread : (c : Chip) → IsInside u.machine c → IsPermutation (sent_on u (flow_of r) c) (sendings (index_of u.machine c) r.items)
  sent_spread c inside =
      by_items (IsDoneOn u) (λ x v spot. of_chip c spot (sent_in v x)) (λ v spot. of_chip c spot (sent_by v r.items)) (sending_of (index_of u.machine c)) 0 u.spots r.items
      (λ v spot. filter-flat (λ k. chip_eq spot.chip c) (sent_in v) r.items) (sent_by_bank u c inside) r.played.turns_are.each

  delivered_is : (v : ℕ) → delivered_to (flow_of r) v ≡ flat_map (λ x. copies_to v (delivered_of x)) r.items
  delivered_is v = grind (arith, filter-flat, map-flat)

  got_spread : (c : Chip) → IsInside u.machine c → IsPermutation (got_on u (flow_of r) c) (gettings (index_of u.machine c) r.items)
  got_spread c inside =
      by_items (IsDoneOn u) (λ x v spot. of_chip c spot (copies_to v (delivered_of x))) (λ v spot. of_chip c spot (delivered_to (flow_of r) v)) (getting_of (index_of u.machine c)) 0 u.spots r.items
      (λ v spot. ap (of_chip c spot) (delivered_is v) ∙ filter-flat (λ k. chip_eq spot.chip c) (λ x. copies_to v (delivered_of x)) r.items) (got_by_bank u c inside) r.played.turns_are.each

  few_got : (c : Chip) → IsLiveChip u.machine c → length (got_on u (flow_of r) c) ≤ r.turns
  few_got c live =
      let same = length_permutation (got_on u (flow_of r) c) (gettings (index_of u.machine c) r.items) (got_spread c (live_inside u.machine c live)) in
      omega (arith, same, r.played.turns_are.gets (index_of u.machine c))

  few_sent : (c : Chip) → IsLiveChip u.machine c → length (sent_on u (flow_of r) c) ≤ r.turns
  few_sent c live =
      let same = length_permutation (sent_on u (flow_of r) c) (sendings (index_of u.machine c) r.items) (sent_spread c (live_inside u.machine c live)) in
      omega (arith, same, r.played.turns_are.sends (index_of u.machine c))

  injected : (c : Chip) → IsLiveChip u.machine c → IsPermutation (sent_on u (flow_of r) c) ((flow_of r).entered (at_port u c Local))
  injected c live =
      let inside = live_inside u.machine c live in
      let is : (flow_of r).entered (at_port u c Local) ≡ sendings (index_of u.machine c) r.items =
      entered_port c Local inside ∙ all_agree (entered_by (queue_at u.machine c Local)) (sending_of (index_of u.machine c)) (injected_by u c inside) in
      subst (IsPermutation (sent_on u (flow_of r) c)) (sym is) (sent_spread c inside)

  collected : (v : ℕ) → v < length u.spots → delivered_to (flow_of r) v ≡ (flow_of r).left (core v)
  collected v below = grind (arith, delivered_is, all_agree, copies_to, collected_by, told_at, stands)

  -- ---- outputs

  module _ (c : Chip) (live : IsLiveChip u.machine c) (o : Out) where
    inside : IsInside u.machine c
    inside = live_inside u.machine c live

    -- what the router of the chip served at the output
    at_output : List Service
    at_output = flat_map (service_at u c inside o) r.items

    went_is : flat_map (λ x. went_on (service_at u c inside o x)) r.items ≡ went_on at_output
    unfolding at_output
    went_is = sym (flat-flat (λ s. brought s s.fate) (service_at u c inside o) r.items)

    fell_is : flat_map (λ x. fell (service_at u c inside o x)) r.items ≡ fell at_output
    unfolding at_output
    fell_is = sym (flat-flat (λ s. lost s s.fate) (service_at u c inside o) r.items)

    -- the queue behind the output is one of the mesh, or nowhere
    is_there : (behind u c o ≡ nowhere) ⊎ IsQueueOf r.m (behind u c o)
    is_there = elim (leads u c o) [
      | by_link d e out lives far at ↦ inr (subst (IsQueueOf r.m) (sym at) (is_input e (ByLink (opposite_of d)) (far_inside u.machine c e d inside far)))
      | to_vertex v dead stands at ↦
          let spot = vertex_behind_stands u.spots c o v stands in
          let there : IsQueueOf r.m (core v) = omega (arith, slice_get_within u.spots v spot.0 spot.1, r.mesh.core_lists) in
          inr (subst (IsQueueOf r.m) (sym at) there)
      | to_none none at ↦ inl at
    ]

    not_beyond : (IsQueueOf r.m (behind u c o) → ⊥) → (behind u c o ≡ nowhere → ⊥) → ⊥
    not_beyond out some = grind (arith, is_there)

    entered_is : (x : Stands r (behind u c o)) → by_place r (behind u c o) (λ p. entered p.at r.items) [] x ≡ went_on at_output
    entered_is (found p) = all_agree (entered_by p.at) (λ x. went_on (service_at u c inside o x)) (entered_behind u c inside o p.at p.is) ∙ went_is
    entered_is (beyond out some before after) = absurd (not_beyond out some)
    entered_is (dark is) = sym (flat_none (IsDoneOn u) (λ x. went_on (service_at u c inside o x)) (none_went u c inside o (ap (queue_place_of u) is)) r.items r.played.turns_are.each) ∙ went_is

    dumped_is : dumped_at (flow_of r) c o ≡ fell at_output
    dumped_is =
        ap (map (λ (d : DumpRec). d.copy)) (filter-flat of dumped_of r.items)
        ∙ (map-flat (λ (d : DumpRec). d.copy) (λ x. filter of (dumped_of x)) r.items
        ∙ (all_agree (λ x. copies_at c o (dumped_of x)) (λ x. fell (service_at u c inside o x)) (recorded_at u c inside o) ∙ fell_is))
      where
        of : DumpRec → Bool
        of d = chip_eq d.chip c && out_eq d.out o

    patient : r.patience * length (dumped_at (flow_of r) c o) ≤ length ((flow_of r).fulls (behind u c o))
    patient = by (stands r (behind u c o))
      where
        by : (x : Stands r (behind u c o)) → r.patience * length (dumped_at (flow_of r) c o) ≤ length (by_place r (behind u c o) (λ p. (goes r (behind u c o) p).fulls) (nowhere_fulls r) x)
        by (found p) =
            let lost_is : lost_at p.at r.items ≡ dumped_at (flow_of r) c o =
            all_agree (lost_by p.at) (λ x. fell (service_at u c inside o x)) (lost_behind u c inside o p.at p.is) ∙ (fell_is ∙ sym dumped_is) in
            subst (λ (l : List McCopy). r.patience * length l ≤ length (goes r (behind u c o) p).fulls) lost_is (goes r (behind u c o) p).patient
        by (beyond out some before after) = absurd (not_beyond out some)
        by (dark is) =
            let of : DumpRec → Bool = λ d. chip_eq d.chip c && out_eq d.out o in
            let many = length-replicate {A = ℕ × ℕ} (r.patience * length (records r.items)) (0, 0) in
            let dumped = length-map (filter of (records r.items)) (λ (d : DumpRec). d.copy) in
            let passing = length-filter of (records r.items) in
            let few = count_by-le-length of (records r.items) in
            let fewer : length (dumped_at (flow_of r) c o) ≤ length (records r.items) = omega (arith, dumped, passing, few) in
            omega (arith, many, mul-le-mul_left r.patience fewer)

    -- what was taken for the output was served there
    taken_is : IsOutput o → IsPermutation (taken_for u (flow_of r) c o) (copies_of at_output)
    unfolding at_output
    taken_is is =
        let i = index_of u.machine c in
        let chip : chip_of u.machine i ≡ c = chip_of-index_of u.machine c inside in
        let own : Service → Bool = λ s. out_eq o s.out in
        let same : flat_map (λ t. filter (leaves_by u c o t.0) (t.1 ∷ [])) (takings i r.items) ≡ copies_of (flat_map (service_at u c inside o) r.items) =
        sym (owed_at o is u c (takings i r.items))
        ∙ (ap (λ (e : Chip). at_out o (owed_on u e (takings i r.items))) (sym chip)
        ∙ (sym (ap (at_out o) (r.played.turns_are.each_once i)) ∙ (served_at o (services i r.items) ∙ ap copies_of (filter-flat own (service_of i) r.items)))) in
        subst (IsPermutation (taken_for u (flow_of r) c o)) same (taken_at_ports (leaves_by u c o) c inside)

    routed : IsOutput o → IsPermutation (map onward (taken_for u (flow_of r) c o)) ((flow_of r).entered (behind u c o) ++ map onward (dumped_at (flow_of r) c o))
    routed is =
        let same : went_on at_output ++ map onward (fell at_output) ≡ (flow_of r).entered (behind u c o) ++ map onward (dumped_at (flow_of r) c o) =
        ap₂ (λ (a b : List McCopy). a ++ map onward b) (sym (entered_is (stands r (behind u c o)))) (sym dumped_is) in
        subst (IsPermutation (map onward (taken_for u (flow_of r) c o))) same
        (IsPermutation-trans (map onward (taken_for u (flow_of r) c o)) (map onward (copies_of at_output)) (went_on at_output ++ map onward (fell at_output))
        (IsPermutation-map onward (taken_for u (flow_of r) c o) (copies_of at_output) (taken_is is)) (sent_or_dumped at_output))

  -- ---- the round

  nowhere_empty : (x : Stands r nowhere) → by_place r nowhere (λ p. entered p.at r.items) [] x ≡ []
  nowhere_empty (found p) = nothing p.is
    where
      nothing : None ≡ Some p.at → entered p.at r.items ≡ []
      nothing same = cc
  nowhere_empty (beyond out some before after) = refl
  nowhere_empty (dark is) = refl

  passes : Passes r.m (flow_of r) r.n
  passes = record {
    setup = r.played.setup;
    none_before = r.no_hand;
    none_after = subst (All (λ (h : Option Hand). h ≡ None)) (sym r.played.hands) r.no_hand;
    in_order = in_order r;
    nowhere_empty = nowhere_empty (stands r nowhere);
    hops = hops_left r;
    dead_ports = dead_ports;
    dead_chips = dead_chips;
    unsent = λ v below. r.played.unsent v;
    injected = injected;
    routed = λ c o live is. routed c live o is;
    delivered = r.played.delivered;
    to_vertices = to_vertices r;
    collected = collected;
    dumped = r.played.dumped;
    at_outputs = at_outputs r;
  }

  pub is_round : IsRound r.patience r.turns r.m (flow_of r) r.n
  is_round = record {
    passes = passes;
    full = full r;
    patient = λ c o live is. patient c live o;
    takes = few_taken;
    sends = few_sent;
    gets = few_got;
  }
