-- The deliveries of a mesh that has delivered what its job asks for, in their order, are the list that the job asks for.
use Rattle.mesh_core.proofs.Common.{All-contains, AllPairs, AllPairs-apart, AllPairs-head, AllPairs-tail, Among, AreAsExpected, AreNetsOn, Bool, Contains, Contains-permutation, Delivery, IsAskedFor}
use Rattle.mesh_core.proofs.Common.{IsDeliveryNotAfter, IsMesh, IsPermutation, IsPermutation-sym, List, McCopy, NetPlan, None, Option, Packet, Some, Spot, State, [], among_any, among_contains}
use Rattle.mesh_core.proofs.Common.{among_gathered, among_map, and_from, and_parts, any_among, ap, arith, cases_order, contains_among, count_by, count_by-cons, deliveries_of, delivery_at, eq-eqb}
use Rattle.mesh_core.proofs.Common.{eqb-true, expected_deliveries, first_copy, gathered_among, if◌then◌else◌, inl, inr, map, map_among, refl, slice_get, spot_eq, spot_eq_same, spot_eq_true, subst}
use Rattle.mesh_core.proofs.Common.{sum_by-IsPermutation, sym, true, without_hop, ℕ, ◌&&◌, ◌+◌, ◌<◌, ◌==◌, ◌∙◌, ◌∷◌, ◌≡◌, ◌≤◌, ◌⊎◌}
use Rattle.mesh_core.proofs.{AskedPackets.net_in_list, Counting.count_some, Counting.counted, Ordered.Ordered, Ordered.ordered_gathered, Ordered.same_ordered, Ways.vertex_at_stands, Ways.some_way}

-- by the packet's number, then by the position of the vertex, and not the same in both
abbrev pub ComesBefore : Delivery → Delivery → Type 0
ComesBefore a b = (a.copy.packet < b.copy.packet) ⊎ ((a.copy.packet ≡ b.copy.packet) × (a.vertex < b.vertex))

one_way_only : (a b : Delivery) → ComesBefore a b → ComesBefore b a → ⊥
one_way_only a b its_2 its_3 = grind arith

-- whether a delivery is of a packet and at a vertex
abbrev pub is_of : ℕ → ℕ → Delivery → Bool
is_of i v d = (d.copy.packet == i) && (d.vertex == v)

pub is_of_from : (i v : ℕ) (d : Delivery) → d.copy.packet ≡ i → d.vertex ≡ v → is_of i v d ≡ true
is_of_from i v d e f = and_from (d.copy.packet == i) (d.vertex == v) (eq-eqb d.copy.packet i e) (eq-eqb d.vertex v f)

pub is_of_parts : (i v : ℕ) (d : Delivery) → is_of i v d ≡ true → (d.copy.packet ≡ i) × (d.vertex ≡ v)
is_of_parts i v d e = grind (arith, and_parts, eqb-true)

-- the delivery of a packet at a vertex, without its hop number
abbrev pub bare : ℕ → ℕ → NetPlan → Packet → Delivery
bare v i net p = record { vertex = v; copy = first_copy i net p }

-- ---- lists in order

-- A list in the order of a report, in which no packet is twice at one vertex, is in strict order.
strictly : (xs : List Delivery) → AllPairs IsDeliveryNotAfter xs → ((x : Delivery) → Among x xs → count_by (is_of x.copy.packet x.vertex) xs ≤ 1) →
    Ordered ComesBefore (map without_hop xs)
strictly [] pairs once = tt
strictly (x ∷ xs) pairs once = (
  λ y there.
      let found = among_map without_hop y xs there in
      subst (ComesBefore (without_hop x)) (sym found.2) (before found.0 found.1
      (All-contains (IsDeliveryNotAfter x) xs found.0 (AllPairs-head IsDeliveryNotAfter x xs pairs) (among_contains found.0 xs found.1))),
  strictly xs (AllPairs-tail IsDeliveryNotAfter x xs pairs) (λ y a.
      omega (arith, once y (inr a), count_by-cons (is_of y.copy.packet y.vertex) x xs)),
)
  where
    twice : (z : Delivery) → Among z xs → x.copy.packet ≡ z.copy.packet → x.vertex ≡ z.vertex → ⊥
    twice z a e f =
        let test : Delivery → Bool = is_of x.copy.packet x.vertex in
        let all : count_by test (x ∷ xs) ≤ 1 = once x (inl refl) in
        let first : test x ≡ true = is_of_from x.copy.packet x.vertex x refl refl in
        let split : count_by test (x ∷ xs) ≡ 1 + count_by test xs = count_by-cons test x xs ∙ ap (λ (b : Bool). (if b then 1 else 0) + count_by test xs) first in
        let some : 1 ≤ count_by test xs = count_some test z xs (is_of_from x.copy.packet x.vertex z (sym e) (sym f)) a in
        omega (arith, all, split, some)

    before : (z : Delivery) → Among z xs → IsDeliveryNotAfter x z → ComesBefore (without_hop x) (without_hop z)
    before z a its_2 = grind (arith, cases_order, twice)

-- ---- the list that a job asks for

-- a delivery at a vertex of the list
record IsAt (i : ℕ) (net : NetPlan) (p : Packet) (v : ℕ) (spot : Spot) (y : Delivery) : Type 0 where
  is_target : Contains net.targets spot
  is_delivery : y ≡ bare v i net p

at_parts : (i : ℕ) (net : NetPlan) (p : Packet) (v : ℕ) (spot : Spot) (y : Delivery) → Among y (delivery_at i net p v spot) → IsAt i net p v spot y
at_parts i net p v spot y a = grind (arith, Among, any_among, spot_eq_true, among_contains)

at_target : (i : ℕ) (net : NetPlan) (p : Packet) (v : ℕ) (spot : Spot) → Contains net.targets spot → Among (bare v i net p) (delivery_at i net p v spot)
at_target i net p v spot has =
    grind (arith, among_any (spot_eq spot) spot net.targets (contains_among spot net.targets has) (spot_eq_same spot), contains_among spot net.targets has, spot_eq_same spot, Among)

-- a delivery of the list, with its packet, net and vertex
record IsListed (spots : List Spot) (nets : List NetPlan) (packets : List Packet) (y : Delivery) : Type 0 where
  number : ℕ
  packet : Packet
  net : NetPlan
  vertex : ℕ
  spot : Spot
  is_packet : slice_get packets number ≡ Some packet
  is_net : slice_get nets packet.net ≡ Some net
  is_spot : slice_get spots vertex ≡ Some spot
  is_target : Contains net.targets spot
  is_delivery : y ≡ bare vertex number net packet

module _ (spots : List Spot) (nets : List NetPlan) (packets : List Packet) where
  -- what is made of a packet
  abbrev of_packet : ℕ → Packet → List Delivery
  of_packet i p = deliveries_of spots i p (slice_get nets p.net)

  of_net_parts : (i : ℕ) (p : Packet) (net : Option NetPlan) (y : Delivery) → Among y (deliveries_of spots i p net) →
      (n : NetPlan) × (net ≡ Some n) × ((v : ℕ) × (spot : Spot) × (slice_get spots v ≡ Some spot) × IsAt i n p v spot y)
  of_net_parts i p (Some net) y a =
      let found = among_gathered (delivery_at i net p) y spots a in
      (net, refl, (found.0, found.1, found.2, at_parts i net p found.0 found.1 y found.3))
  of_net_parts i p None y a = absurd a

  listed_parts : (y : Delivery) → Among y (expected_deliveries spots nets packets) → IsListed spots nets packets y
  listed_parts y a =
      let found = among_gathered of_packet y packets a in
      let of = of_net_parts found.0 found.1 (slice_get nets found.1.net) y found.3 in
      record {
        number = found.0;
        packet = found.1;
        net = of.0;
        vertex = of.2.0;
        spot = of.2.1;
        is_packet = found.2;
        is_net = of.1;
        is_spot = of.2.2;
        is_target = of.2.3.is_target;
        is_delivery = of.2.3.is_delivery;
      }

  listed : (i : ℕ) (p : Packet) (net : NetPlan) (v : ℕ) (spot : Spot) → slice_get packets i ≡ Some p → slice_get nets p.net ≡ Some net →
      slice_get spots v ≡ Some spot → Contains net.targets spot → Among (bare v i net p) (expected_deliveries spots nets packets)
  listed i p net v spot is_packet is_net is_spot has =
      gathered_among of_packet (bare v i net p) packets i p is_packet
      (subst (λ (o : Option NetPlan). Among (bare v i net p) (deliveries_of spots i p o)) (sym is_net)
      (gathered_among (delivery_at i net p) (bare v i net p) spots v spot is_spot (at_target i net p v spot has)))

  -- the list is in order
  packet_of : (i : ℕ) (p : Packet) (net : Option NetPlan) (y : Delivery) → Among y (deliveries_of spots i p net) → y.copy.packet ≡ i
  packet_of i p net y a = ap (λ (d : Delivery). d.copy.packet) (of_net_parts i p net y a).2.3.is_delivery

  one_at : (i : ℕ) (net : NetPlan) (p : Packet) (v : ℕ) (spot : Spot) → Ordered ComesBefore (delivery_at i net p v spot)
  one_at i net p v spot = grind (arith, Ordered)

  packet_in_order : (i : ℕ) (p : Packet) (net : Option NetPlan) → Ordered ComesBefore (deliveries_of spots i p net)
  packet_in_order i p (Some net) =
      ordered_gathered ComesBefore (delivery_at i net p) 0 spots (one_at i net p)
      (λ j k z w a b less in_a in_b.
      let x = at_parts i net p j z a in_a in
      let y = at_parts i net p k w b in_b in
      subst (λ (d : Delivery). ComesBefore d b) (sym x.is_delivery) (subst (ComesBefore (bare j i net p)) (sym y.is_delivery) (inr (refl, less))))
  packet_in_order i p None = tt

  pub in_order : Ordered ComesBefore (expected_deliveries spots nets packets)
  in_order =
      ordered_gathered ComesBefore of_packet 0 packets (λ i p. packet_in_order i p (slice_get nets p.net))
      (λ j k z w a b less in_a in_b.
      inl (omega (arith, packet_of j z (slice_get nets z.net) a in_a, packet_of k w (slice_get nets w.net) b in_b)))

-- ---- the deliveries of a mesh

module _ (s : State) (nets : List NetPlan) (packets : List Packet) (mesh : IsMesh s) (stand : AreNetsOn s.setup.machine s.setup.spots nets)
    (expected : AreAsExpected s nets packets) where
  abbrev the_list : List Delivery
  the_list = expected_deliveries s.setup.spots nets packets

  asked : (d : Delivery) → Among d s.delivered → IsAskedFor s nets packets d
  asked d a = expected.no_other d (among_contains d s.delivered a)

  -- a delivery that is asked for, without its hop number
  asked_bare : (d : Delivery) (a : IsAskedFor s nets packets d) → without_hop d ≡ bare d.vertex a.number a.net a.packet
  asked_bare d a = ap {B = Delivery} (λ (c : McCopy). record { vertex = d.vertex; copy = record c { hop = 0 } }) a.is_copy

  pub is_listed : (d : Delivery) → Among d s.delivered → Among (without_hop d) the_list
  is_listed d there =
      let a = asked d there in
      subst (λ (y : Delivery). Among y the_list) (sym (asked_bare d a))
      (listed s.setup.spots nets packets a.number a.packet a.net d.vertex a.target a.is_packet a.is_net
      (vertex_at_stands s.setup.spots a.target d.vertex a.is_way.ends) a.is_way.is_target)

  -- one delivery of a packet at a vertex of the list
  pub listed_once : (y : Delivery) → Among y the_list → count_by (is_of y.copy.packet y.vertex) s.delivered ≡ 1
  listed_once y there =
      let l = listed_parts s.setup.spots nets packets y there in
      let w = some_way s.setup.machine s.setup.spots nets stand l.net (net_in_list nets l.packet l.net l.is_net) l.spot l.is_target in
      let place : w.2 ≡ l.vertex = AllPairs-apart s.setup.spots l.spot mesh.different w.2 l.vertex (vertex_at_stands s.setup.spots l.spot w.2 w.3.ends) l.is_spot in
      let one : count_by (is_of l.number w.2) s.delivered ≡ 1 = expected.each_once l.number l.packet l.net l.is_packet l.is_net l.spot w.0 w.1 w.2 w.3 in
      let number : y.copy.packet ≡ l.number = ap (λ (d : Delivery). d.copy.packet) l.is_delivery in
      let vertex : y.vertex ≡ w.2 = ap (λ (d : Delivery). d.vertex) l.is_delivery ∙ sym place in
      ap (λ (i : ℕ). count_by (is_of i y.vertex) s.delivered) number ∙ (ap (λ (v : ℕ). count_by (is_of l.number v) s.delivered) vertex ∙ one)

  -- so a delivery of the list was made
  pub listed_made : (y : Delivery) → Among y the_list → (d : Delivery) × Among d s.delivered × (without_hop d ≡ y)
  listed_made y there = grind (arith, listed_parts, listed_once, counted, asked, is_of_parts, asked_bare)

  pub in_order_is_list : (sorted : List Delivery) → IsPermutation s.delivered sorted → AllPairs IsDeliveryNotAfter sorted → map without_hop sorted ≡ the_list
  in_order_is_list sorted perm pairs =
      same_ordered ComesBefore one_way_only (map without_hop sorted) the_list (strictly sorted pairs once) (in_order s.setup.spots nets packets)
      (λ y there.
      let found = among_map without_hop y sorted there in
      subst (λ (z : Delivery). Among z the_list) (sym found.2) (is_listed found.0 (made found.0 found.1)))
      (λ y there.
      let found = listed_made y there in
      subst (λ (z : Delivery). Among z (map without_hop sorted)) found.2
      (map_among without_hop found.0 sorted (contains_among found.0 sorted (Contains-permutation s.delivered sorted found.0 perm (among_contains found.0 s.delivered found.1)))))
    where
      made : (d : Delivery) → Among d sorted → Among d s.delivered
      made d a = contains_among d s.delivered (Contains-permutation sorted s.delivered d (IsPermutation-sym s.delivered sorted perm) (among_contains d sorted a))

      once : (d : Delivery) → Among d sorted → count_by (is_of d.copy.packet d.vertex) sorted ≤ 1
      once d a = grind (arith, listed_once (without_hop d) (is_listed d (made d a)), is_listed d (made d a), sum_by-IsPermutation)
