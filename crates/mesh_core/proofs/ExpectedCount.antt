-- The deliveries of a mesh that has delivered what its job asks for are as many as the targets of the packets' nets.
use Rattle.mesh_core.proofs.Common.{All, All-contains, All-each, AllPairs, Among, AreAsExpected, AreNetsOn, Bool, Contains, Contains-filter, Delivery, IsMesh, List, NetPlan, None, Option, Packet}
use Rattle.mesh_core.proofs.Common.{Some, Spot, State, [], among_any, any_among, ap, arith, contains_among, count_by, count_by-cons, deliveries_of, delivery_at, expected_count, expected_deliveries}
use Rattle.mesh_core.proofs.Common.{false, filter, gathered, if◌then◌else◌, inl, inr, length, length-append, length-filter, list_any, refl, slice_get, spot_eq, spot_eq_same, subst, sum_by-cons, sym}
use Rattle.mesh_core.proofs.Common.{targets_of_net, true, without_hop, ℕ, ◌+◌, ◌∙◌, ◌∷◌, ◌≡◌, ◌≢◌, ◌≤◌}
use Rattle.mesh_core.proofs.{Ordered.few_different, Ordered.one_spot, Ordered.at_most_one, Counting.length_covered, Counting.count_covered, AskedPackets.net_in_list, ExpectedList.ComesBefore}
use Rattle.mesh_core.proofs.ExpectedList.{is_of, is_of_from, is_of_parts, bare, in_order, is_listed, listed_once, listed_made}

-- ---- targets and spots

module _ (spots ts : List Spot) (different : AllPairs (λ a b. a ≢ b) spots) (apart : AllPairs (λ a b. a ≢ b) ts) (within : All (Contains spots) ts) where
  abbrev is_target : Spot → Bool
  is_target spot = list_any (spot_eq spot) ts

  at_most : count_by is_target spots ≤ length ts
  at_most =
      count_covered (λ w x. spot_eq x w) ts is_target spots (λ x a passes. any_among (spot_eq x) ts passes) (λ w a. one_spot spots different w)

  at_least : length ts ≤ count_by is_target spots
  at_least =
      subst (λ n. length ts ≤ n) (length-filter is_target spots) (few_different (filter is_target spots) ts apart
      (All-each (Contains (filter is_target spots)) ts (λ t has.
      Contains-filter is_target spots t (All-contains (Contains spots) ts t within has) (among_any (spot_eq t) t ts (contains_among t ts has) (spot_eq_same t)))))

  -- the spots that are targets are as many as the targets
  spots_of_targets : count_by is_target spots ≡ length ts
  spots_of_targets = let a = at_most in let b = at_least in omega (arith, a, b)

-- ---- the length of the list

length_at : (i : ℕ) (net : NetPlan) (p : Packet) (v : ℕ) (spot : Spot) → length (delivery_at i net p v spot) ≡ (if list_any (spot_eq spot) net.targets then 1 else 0)
length_at i net p v spot = by_test (list_any (spot_eq spot) net.targets)
  where
    by_test : (b : Bool) → length (if b then bare v i net p ∷ [] else []) ≡ (if b then 1 else 0)
    by_test true = refl
    by_test false = refl

length_of_net : (i : ℕ) (net : NetPlan) (p : Packet) (v : ℕ) (spots : List Spot) →
    length (gathered (delivery_at i net p) v spots) ≡ count_by (λ (spot : Spot). list_any (spot_eq spot) net.targets) spots
length_of_net i net p v [] = refl
length_of_net i net p v (x ∷ spots) =
    let whole = length-append (delivery_at i net p v x) (gathered (delivery_at i net p) (v + 1) spots) in
    let counts = count_by-cons (λ (spot : Spot). list_any (spot_eq spot) net.targets) x spots in
    omega (arith, length_at i net p v x, length_of_net i net p (v + 1) spots, whole, counts)

module _ (spots : List Spot) (nets : List NetPlan) (each : (i : ℕ) (p : Packet) (o : Option NetPlan) → slice_get nets p.net ≡ o → length (deliveries_of spots i p o) ≡ targets_of_net o) where
  length_of_packets : (i : ℕ) (ps : List Packet) → length (gathered (λ j (p : Packet). deliveries_of spots j p (slice_get nets p.net)) i ps) ≡ expected_count nets ps
  length_of_packets i [] = refl
  length_of_packets i (p ∷ ps) =
      let first = each i p (slice_get nets p.net) refl in
      let whole = length-append (deliveries_of spots i p (slice_get nets p.net)) (gathered (λ j (q : Packet). deliveries_of spots j q (slice_get nets q.net)) (i + 1) ps) in
      let sums = sum_by-cons (λ (q : Packet). targets_of_net (slice_get nets q.net)) p ps in
      omega (arith, first, length_of_packets (i + 1) ps, whole, sums)

-- ---- the deliveries of a mesh

module _ (s : State) (nets : List NetPlan) (packets : List Packet) (mesh : IsMesh s) (stand : AreNetsOn s.setup.machine s.setup.spots nets)
    (expected : AreAsExpected s nets packets) where
  abbrev all_asked : List Delivery
  all_asked = expected_deliveries s.setup.spots nets packets

  -- a list's delivery counts for the deliveries of its packet at its vertex
  abbrev alike : Delivery → Delivery → Bool
  alike w d = is_of w.copy.packet w.vertex d

  no_more : length s.delivered ≤ length all_asked
  no_more =
      length_covered alike all_asked s.delivered
      (λ d a. (without_hop d, is_listed s nets packets mesh stand expected d a, is_of_from d.copy.packet d.vertex d refl refl))
      (λ w a. let one = listed_once s nets packets mesh stand expected w a in omega (arith, one))

  no_fewer : length all_asked ≤ length s.delivered
  no_fewer = length_covered alike s.delivered all_asked made (λ d a. once d.copy.packet d.vertex)
    where
      made : (y : Delivery) → Among y all_asked → (d : Delivery) × Among d s.delivered × (alike d y ≡ true)
      made y a =
          let found = listed_made s nets packets mesh stand expected y a in (
            found.0,
            found.1,
            is_of_from found.0.copy.packet found.0.vertex y
                (sym (ap (λ (d : Delivery). d.copy.packet) found.2)) (sym (ap (λ (d : Delivery). d.vertex) found.2)),
          )

      once : (i v : ℕ) → count_by (is_of i v) all_asked ≤ 1
      once i v =
          at_most_one ComesBefore (is_of i v) all_asked (in_order s.setup.spots nets packets) (λ x y less px py.
          let a = is_of_parts i v x px in
          let b = is_of_parts i v y py in
          never x y less (a.0 ∙ sym b.0) (a.1 ∙ sym b.1))
        where
          never : (x y : Delivery) → ComesBefore x y → x.copy.packet ≡ y.copy.packet → x.vertex ≡ y.vertex → ⊥
          never x y (inl less) e f = omega (arith, less, e)
          never x y (inr (same, less)) e f = omega (arith, less, f)

  -- a packet has a delivery for each target of its net
  of_packet_long : (i : ℕ) (p : Packet) (o : Option NetPlan) → slice_get nets p.net ≡ o → length (deliveries_of s.setup.spots i p o) ≡ targets_of_net o
  of_packet_long i p (Some net) is =
      let has = net_in_list nets p net is in
      length_of_net i net p 0 s.setup.spots
      ∙ spots_of_targets s.setup.spots net.targets mesh.different
      (All-contains (λ (n : NetPlan). AllPairs (λ a b. a ≢ b) n.targets) nets net stand.different has)
      (All-contains (λ (n : NetPlan). All (Contains s.setup.spots) n.targets) nets net stand.targets has)
  of_packet_long i p None is = refl

  pub as_many : length s.delivered ≡ expected_count nets packets
  as_many =
      let long : length all_asked ≡ expected_count nets packets = length_of_packets s.setup.spots nets of_packet_long 0 packets in
      omega (arith, no_more, no_fewer, long)
