-- The opened mesh of a job meets the ledger of the job.
use Rattle.mesh_core.proofs.Common.{All, All-contains, All-each, All-map, Among, AreNetsOn, AreOfNets, Bool, Contains, Contains-unmap, Description, Exit, IsKeyOf, IsMesh, IsRoutingTree, IsTrue}
use Rattle.mesh_core.proofs.Common.{IsWayOn, Label, List, Mark, McCopy, MeetsJobLedger, NetPlan, None, Option, Packet, Setup, Some, Spot, State, [], among_chosen, among_contains, among_made}
use Rattle.mesh_core.proofs.Common.{among_map, and-false, and_from, ap, append-nil, arith, asked_by, chosen_among, contains_among, copy_from, count_by, count_by-map, count_chosen_none}
use Rattle.mesh_core.proofs.Common.{count_chosen_one, count_made_one, empty_mesh, eq-eqb, eqb-true, false, first_copy, gathered_nothing, if◌then◌else◌, inl, inr, is_on_trail, is_packet_on_trail}
use Rattle.mesh_core.proofs.Common.{label_in, label_of, length, length-map-range_with_len, link_on_branch, made_among, map, map_among, marks_at, marks_of, ne_eqb, on_trail, opened_mesh, option_map_or}
use Rattle.mesh_core.proofs.Common.{range_with_len, refl, same_Some, slice_get, slice_get_within, slice_index_or, subst, sym, true, unsent, unsent_marks, unsent_of, vertex_at, ℕ, ◌&&◌, ◌+◌, ◌<◌, ◌==◌}
use Rattle.mesh_core.proofs.Common.{◌∙◌, ◌≡◌, ◌≢◌}
use Rattle.mesh_core.proofs.{Changes.IsMesh-lists, Ways.some_way, Ways.vertex_at_stands, Ways.vertex_there, AskedPackets.asked_parts, AskedPackets.asked_from, AskedPackets.asked_of_net}
use Rattle.mesh_core.proofs.{AskedPackets.net_in_list, Moves.mark, LedgerLaw.one_net}

-- a copy that a vertex sends, and of what packet it is
record IsSent (spots : List Spot) (nets : List NetPlan) (p : Packet) (i v : ℕ) (k : McCopy) : Type 0 where
  net : NetPlan
  is_net : slice_get nets p.net ≡ Some net
  vertex : vertex_at spots net.source ≡ Some v
  copy : k ≡ first_copy i net p

same_vertex : (w : Option ℕ) (v : ℕ) → option_map_or (λ n. n == v) w false ≡ true → w ≡ Some v
same_vertex w v e = grind (arith, eqb-true)

sent_parts : (spots : List Spot) (nets : List NetPlan) (p : Packet) (i v : ℕ) (k : McCopy) (net : Option NetPlan) → slice_get nets p.net ≡ net →
    copy_from spots v i p net ≡ Some k → IsSent spots nets p i v k
sent_parts spots nets p i v k (Some net) is e = by_vertex (option_map_or (λ n. n == v) (vertex_at spots net.source) false) refl e
  where
    by_vertex : (b : Bool) → option_map_or (λ n. n == v) (vertex_at spots net.source) false ≡ b → (if b then Some (first_copy i net p) else None) ≡ Some k →
        IsSent spots nets p i v k
    by_vertex true here e' = record { net = net; is_net = is; vertex = same_vertex (vertex_at spots net.source) v here; copy = let same : first_copy i net p ≡ k = cc in sym same }
    by_vertex false other e' = cc
sent_parts spots nets p i v k None is e = cc

sent_from : (spots : List Spot) (nets : List NetPlan) (p : Packet) (i v : ℕ) (net : NetPlan) → slice_get nets p.net ≡ Some net → vertex_at spots net.source ≡ Some v →
    copy_from spots v i p (slice_get nets p.net) ≡ Some (first_copy i net p)
sent_from spots nets p i v net is vertex = grind (arith, eq-eqb v v refl)

module _ (setup : Setup) (nets : List NetPlan) (packets : List Packet) where
  abbrev m : Description
  m = setup.machine

  abbrev spots : List Spot
  spots = setup.spots

  abbrev opened : State
  opened = opened_mesh setup nets packets

  abbrev copies : ℕ → List McCopy
  copies v = unsent_of spots nets packets v

  abbrev number : ℕ
  number = length spots

  -- the only marks are those of unsent copies
  opened_marks : marks_of opened ≡ unsent_marks opened
  opened_marks = grind (arith, append-nil (unsent_marks opened), gathered_nothing)

  -- what is known of a mark of the opened mesh
  record IsUnsent (k : Mark) : Type 0 where
    vertex : ℕ
    number_is : ℕ
    packet : Packet
    at : slice_get packets number_is ≡ Some packet
    sent : IsSent spots nets packet number_is vertex k.copy
    below : vertex < number
    station : k.station ≡ unsent vertex

  is_unsent : (k : Mark) → Contains (marks_of opened) k → IsUnsent k
  is_unsent k has =
      let made = among_made (λ v q. marks_at (unsent v) q) copies k 0 number (contains_among k (unsent_marks opened) (subst (λ l. Contains l k) opened_marks has)) in
      let v : ℕ = made.0 in
      let in_marked = among_map (λ (c : McCopy). mark c (unsent v)) k (copies v) made.3 in
      let in_list = among_chosen (λ (e : ℕ × Packet). copy_from spots v e.0 e.1 (slice_get nets e.1.net)) in_marked.0 0 packets in_marked.1 in
      let i : ℕ = in_list.0 in
      let zero_more : 0 + i ≡ i = omega arith in
      let copy_is : copy_from spots v i in_list.1 (slice_get nets in_list.1.net) ≡ Some in_marked.0 =
      ap (λ n. copy_from spots v n in_list.1 (slice_get nets in_list.1.net)) (sym zero_more) ∙ in_list.3 in
      let sent = sent_parts spots nets in_list.1 i v in_marked.0 (slice_get nets in_list.1.net) refl copy_is in
      record {
        vertex = v;
        number_is = i;
        packet = in_list.1;
        at = in_list.2;
        sent = subst (λ (c : McCopy). IsSent spots nets in_list.1 i v c) (sym (ap (λ (x : Mark). x.copy) in_marked.2)) sent;
        below = omega (arith, made.2);
        station = ap (λ (x : Mark). x.station) in_marked.2;
      }

  -- each packet of the list has a mark, with its source vertex
  has_mark : (i : ℕ) (p : Packet) (net : NetPlan) (v : ℕ) → slice_get packets i ≡ Some p → slice_get nets p.net ≡ Some net → vertex_at spots net.source ≡ Some v →
      Contains (marks_of opened) (mark (first_copy i net p) (unsent v))
  has_mark i p net v at is vertex =
      let below : v < number = slice_get_within spots v net.source (vertex_at_stands spots net.source v vertex) in
      let zero_more : 0 + i ≡ i = omega arith in
      let in_list : Among (first_copy i net p) (copies v) =
      chosen_among (λ (e : ℕ × Packet). copy_from spots v e.0 e.1 (slice_get nets e.1.net)) (first_copy i net p) 0 packets i p at
      (ap (λ n. copy_from spots v n p (slice_get nets p.net)) zero_more ∙ sent_from spots nets p i v net is vertex) in
      let there : Among (mark (first_copy i net p) (unsent v)) (unsent_marks opened) =
      made_among (λ w q. marks_at (unsent w) q) copies (mark (first_copy i net p) (unsent v)) 0 number v (omega arith) (omega arith)
      (map_among (λ (c : McCopy). mark c (unsent v)) (first_copy i net p) (copies v) in_list) in
      subst (λ l. Contains l (mark (first_copy i net p) (unsent v))) (sym opened_marks) (among_contains (mark (first_copy i net p) (unsent v)) (unsent_marks opened) there)

  -- unsent copies have passed no router
  copies_at_start : (v : ℕ) → All (λ k. k.hop ≡ 0) (copies v)
  copies_at_start v = All-each (λ (k : McCopy). k.hop ≡ 0) (copies v) (λ k has.
      let in_list = among_chosen (λ (e : ℕ × Packet). copy_from spots v e.0 e.1 (slice_get nets e.1.net)) k 0 packets (contains_among k (copies v) has) in
      let sent = sent_parts spots nets in_list.1 (0 + in_list.0) v k (slice_get nets in_list.1.net) refl in_list.3 in
      ap (λ (c : McCopy). c.hop) sent.copy)

  -- The opened mesh of a job is a mesh.
  pub IsMesh-opened : IsMesh (empty_mesh setup) → IsMesh opened
  IsMesh-opened h =
      let e : State = empty_mesh setup in
      IsMesh-lists e h (map copies (range_with_len 0 number)) (length-map-range_with_len copies 0 number)
      (All-map (λ (q : List McCopy). All (λ k. k.hop ≡ 0) q) copies (range_with_len 0 number) (λ j d below. copies_at_start (slice_index_or (range_with_len 0 number) j d)))
      e.hands h.hand_list h.hands_fit h.no_hand_on_dead_chips e.cores h.core_lists h.cores_within [] []

  -- a tree has a target: the root is one, or an edge leads on to one
  some_target : (net : NetPlan) → IsRoutingTree m net.tree.root net.tree.edges net.targets → (t : Spot) × Contains net.targets t
  some_target net tree = elim (tree.ends_are_targets net.tree.root (inl refl)) [
    | inl out ↦ let way = link_on_branch m net.tree.root net.tree.edges net.targets tree out.1 (out.0, out.2, out.3) in (way.0, way.1)
    | inr target ↦ let there = Contains-unmap (λ (s : Spot). s.chip) net.targets net.tree.root target in (there.0, there.1)
  ]

  module _ (stand : AreNetsOn m spots nets) (of_nets : AreOfNets nets packets) where
    label_is : (i : ℕ) (p : Packet) (net : NetPlan) → slice_get packets i ≡ Some p → slice_get nets p.net ≡ Some net → label_of (asked_by nets packets i) ≡ label_in net p
    label_is i p net at is = ap label_of (asked_from nets packets i p net at is)

    -- an unsent mark of a packet of a net
    unsent_key : (k : Mark) (u : IsUnsent k) → k.copy.key ≡ u.sent.net.block.key + u.packet.index
    unsent_key k u = ap (λ (c : McCopy). c.key) u.sent.copy

    unsent_number : (k : Mark) (u : IsUnsent k) → k.copy.packet ≡ u.number_is
    unsent_number k u = ap (λ (c : McCopy). c.packet) u.sent.copy

    unsent_is_key : (k : Mark) (u : IsUnsent k) → IsKeyOf u.sent.net.block k.copy.key
    unsent_is_key k u = grind (arith, unsent_key, same_Some)

    labelled : (k : Mark) → Contains (marks_of opened) k →
        (k.copy.key ≡ (label_of (asked_by nets packets k.copy.packet)).key) × (k.copy.payload ≡ (label_of (asked_by nets packets k.copy.packet)).payload)
    labelled k has =
        let u = is_unsent k has in
        let label : label_of (asked_by nets packets k.copy.packet) ≡ label_in u.sent.net u.packet =
        ap (λ i. label_of (asked_by nets packets i)) (unsent_number k u) ∙ label_is u.number_is u.packet u.sent.net u.at u.sent.is_net
        in (
          unsent_key k u ∙ sym (ap (λ (l : Label). l.key) label),
          ap (λ (c : McCopy). c.payload) u.sent.copy ∙ sym (ap (λ (l : Label). l.payload) label),
        )

    on_a_trail : (k : Mark) → Contains (marks_of opened) k →
        (net : NetPlan) × Contains nets net × IsKeyOf net.block k.copy.key ×
        ((target : Spot) × (branch : List Exit) × (from : ℕ) × (to : ℕ) × IsWayOn m spots net target branch from to × IsTrue (is_on_trail from to branch k))
    on_a_trail k has =
        let u = is_unsent k has in
        let net : NetPlan = u.sent.net in
        let in_list = net_in_list nets u.packet net u.sent.is_net in
        let tree = All-contains (λ n. IsRoutingTree m n.tree.root n.tree.edges n.targets) nets net stand.trees in_list in
        let target = some_target net tree in
        let w = some_way m spots nets stand net in_list target.0 target.1 in
        let start : u.vertex ≡ w.1 = same_Some u.vertex w.1 (sym u.sent.vertex ∙ w.3.begins) in
        let on : is_on_trail w.1 w.2 w.0 k ≡ true =
        ap (λ at. on_trail w.1 w.2 w.0 k.copy.hop at) u.station
        ∙ and_from (u.vertex == w.1) (k.copy.hop == 0) (eq-eqb u.vertex w.1 start) (eq-eqb k.copy.hop 0 (ap (λ (c : McCopy). c.hop) u.sent.copy))
        in (net, in_list, unsent_is_key k u, (target.0, w.0, w.1, w.2, w.3, on))

    -- the test on an unsent copy
    abbrev counts : ℕ → ℕ → ℕ → List Exit → ℕ → McCopy → Bool
    counts n from to branch v c = (c.packet == n) && ((v == from) && (c.hop == 0))

    once : (k : Mark) → Contains (marks_of opened) k → (net : NetPlan) → Contains nets net → IsKeyOf net.block k.copy.key →
        (target : Spot) (branch : List Exit) (from to : ℕ) → IsWayOn m spots net target branch from to →
        count_by (is_packet_on_trail k.copy.packet from to branch) (marks_of opened) ≡ 1
    once k has net in_list key target branch from to w =
        let u = is_unsent k has in
        let own_list = net_in_list nets u.packet u.sent.net u.sent.is_net in
        let one : u.sent.net ≡ net = one_net nets stand.disjoint u.sent.net net own_list in_list k.copy.key (unsent_is_key k u) key in
        let source : Some u.vertex ≡ Some from = sym u.sent.vertex ∙ (ap (λ (n : NetPlan). vertex_at spots n.source) one ∙ w.begins) in
        let vertex_is : u.vertex ≡ from = cc in
        let p : Mark → Bool = is_packet_on_trail k.copy.packet from to branch in
        ap (count_by p) opened_marks
        ∙ count_made_one (λ v q. marks_at (unsent v) q) copies p 0 number from 1 (omega arith) (from_below u vertex_is)
        (count_by-map p (λ c. mark c (unsent from)) (copies from) ∙ one_of_source u vertex_is)
        (λ v other. count_by-map p (λ c. mark c (unsent v)) (copies v) ∙ none_elsewhere v other)
      where
        n : ℕ
        n = k.copy.packet

        from_below : (u : IsUnsent k) → u.vertex ≡ from → from < 0 + number
        from_below u is = let low : u.vertex < number = u.below in omega arith

        none_elsewhere : (v : ℕ) → v ≢ from → count_by (counts n from to branch v) (copies v) ≡ 0
        none_elsewhere v other =
            count_chosen_none (λ (e : ℕ × Packet). copy_from spots v e.0 e.1 (slice_get nets e.1.net)) (counts n from to branch v) 0 packets
            (λ i q c at is. fails v other c)
          where
            fails : (v : ℕ) → v ≢ from → (c : McCopy) → counts n from to branch v c ≡ false
            fails v other c = ap (λ b. (c.packet == n) && (b && (c.hop == 0))) (ne_eqb v from other) ∙ and-false (c.packet == n)

        one_of_source : (u : IsUnsent k) → u.vertex ≡ from → count_by (counts n from to branch from) (copies from) ≡ 1
        one_of_source u is =
            let zero_more : 0 + u.number_is ≡ u.number_is = omega arith in
            let vertex : vertex_at spots u.sent.net.source ≡ Some from = u.sent.vertex ∙ ap Some is in
            let number_same : u.number_is ≡ n = sym (unsent_number k u) in
            count_chosen_one (λ (e : ℕ × Packet). copy_from spots from e.0 e.1 (slice_get nets e.1.net)) (counts n from to branch from) 0 packets
            u.number_is u.packet (first_copy u.number_is u.sent.net u.packet) u.at
            (ap (λ j. copy_from spots from j u.packet (slice_get nets u.packet.net)) zero_more ∙ sent_from spots nets u.packet u.number_is from u.sent.net u.sent.is_net vertex)
            (and_from (u.number_is == n) ((from == from) && true) (eq-eqb u.number_is n number_same) (and_from (from == from) true (eq-eqb from from refl) refl))
            (λ j q c apart at e.
            let zero_j : 0 + j ≡ j = omega arith in
            let sent = sent_parts spots nets q j from c (slice_get nets q.net) refl (ap (λ i. copy_from spots from i q (slice_get nets q.net)) (sym zero_j) ∙ e) in
            let its_number : c.packet ≡ j = ap (λ (d : McCopy). d.packet) sent.copy in
            ap (λ b. b && ((from == from) && (c.hop == 0))) (ne_eqb c.packet n (λ same. apart (sym its_number ∙ (same ∙ sym number_same)))))

    -- The opened mesh of a job meets the ledger of the job.
    pub opened_meets_ledger : MeetsJobLedger opened nets packets
    opened_meets_ledger = record {
      of_nets = of_nets;
      ledger = record {
        ledger = record { nets_stand = stand; labelled = labelled; on_a_trail = on_a_trail; once_on_each = once };
        of_its_net = asked_of_net nets packets of_nets;
        was_asked = λ k has.
            let u = is_unsent k has in
            let asked = asked_from nets packets u.number_is u.packet u.sent.net u.at u.sent.is_net in
            (record { net = u.sent.net; label = label_in u.sent.net u.packet }, ap (asked_by nets packets) (unsent_number k u) ∙ asked);
        each_asked = λ i a is.
            let parts = asked_parts nets packets i a is in
            let on_spot = All-contains (λ n. Contains spots n.source) nets parts.net stand.sources (net_in_list nets parts.packet parts.net parts.is_net) in
            let start = vertex_there spots parts.net.source on_spot in (
              mark (first_copy i parts.net parts.packet) (unsent start.0),
              has_mark i parts.packet parts.net start.0 parts.is_packet parts.is_net start.1,
              refl,
            );
      };
    }
