-- A packet of a job, its net, and the vertex that sends it.
use Rattle.mesh_drain.proofs.Common.{All, All-contains, AreOfNets, Contains, List, McCopy, NetPlan, Packet, Setup, Some, Spot, State, [], ap, arith, empty_mesh, first_copy, get_or, get_or-map}
use Rattle.mesh_drain.proofs.Common.{get_or_from_slice_get, length, length-map, length-take-le, map, opened_mesh, push_at, slice_get, slice_get-get_or, slice_get_within, slice_index_or}
use Rattle.mesh_drain.proofs.Common.{source_vertex_of, sym, take, take_more, unwrap_or, vertex_at, vertex_at-below, vertex_there, ℕ, ◌++◌, ◌+◌, ◌<◌, ◌∙◌, ◌∷◌, ◌≡◌}
use Rattle.mesh_drain.proofs.Unsent.{opened_more, opened_none}

-- what is known of a packet of a job
pub record Known (spots : List Spot) (nets : List NetPlan) (p : Packet) : Type 0 where
  pub net : NetPlan
  pub is_net : slice_get nets p.net ≡ Some net
  pub fits : net.block.key + p.index < 4294967296
  pub source : ℕ
  pub vertex : vertex_at spots net.source ≡ Some source
  pub is_source : source_vertex_of spots net ≡ source
  pub net_within : p.net < length nets
  pub below : source < length spots

pub known : (spots : List Spot) (nets : List NetPlan) (packets : List Packet) → AreOfNets nets packets → All (λ (net : NetPlan). Contains spots net.source) nets →
    (i : ℕ) (d : Packet) → i < length packets → Known spots nets (slice_index_or packets i d)
known spots nets packets of_nets sources i d within =
    let p : Packet = slice_index_or packets i d in
    let of = of_nets i p (slice_get-get_or packets i d within) in
    let net_within = slice_get_within nets p.net of.0 of.1 in
    let there = get_or_from_slice_get nets p.net of.0 of.0 of.1 in
    let from = vertex_there spots of.0.source (All-contains (λ (net : NetPlan). Contains spots net.source) nets of.0 sources (p.net, net_within, there)) in
    record {
      net = of.0;
      is_net = of.1;
      fits = of.2.fits;
      source = from.0;
      vertex = from.1;
      is_source = ap (λ o. unwrap_or o 0) from.1;
      net_within = net_within;
      below = vertex_at-below spots of.0.source from.0 from.1;
    }

-- the vertex that the list of sources has for a packet
pub listed_source : (spots : List Spot) (nets : List NetPlan) (list : List ℕ) (p : Packet) (d : ℕ) → list ≡ map (source_vertex_of spots) nets → (k : Known spots nets p) →
    (p.net < length list) × (get_or list p.net d ≡ k.source)
listed_source spots nets list p d is k =
    grind (arith, length-map nets (source_vertex_of spots), get_or-map (source_vertex_of spots) nets p.net k.net d k.net_within, get_or_from_slice_get nets p.net k.net k.net k.is_net, get_or)

-- the mesh of no packet is the one without a copy
pub opens : (u : Setup) (nets : List NetPlan) → empty_mesh u ≡ opened_mesh u nets []
opens u nets = ap (λ l. record (empty_mesh u) { unsent = l }) (opened_none u.spots nets)

-- the mesh of one packet more
pub grows : (u : Setup) (nets : List NetPlan) (packets : List Packet) (i : ℕ) (d : Packet) (n : NetPlan) (v : ℕ) (copy : McCopy) (s t : State) →
    (k : Known u.spots nets (slice_index_or packets i d)) → i < length packets →
    s ≡ opened_mesh u nets (take i packets) →
    copy ≡ record {
      packet = i;
      key = (slice_index_or nets (slice_index_or packets i d).net n).block.key + (slice_index_or packets i d).index;
      payload = (slice_index_or packets i d).payload;
      hop = 0;
    } →
    v ≡ k.source →
    t ≡ record s { unsent = push_at s.unsent v copy (slice_get s.unsent v) } →
    t ≡ opened_mesh u nets (take (i + 1) packets)
grows u nets packets i d n v copy s t k within before is_copy vertex step =
    let p : Packet = slice_index_or packets i d in
    let so_far : List Packet = take i packets in
    let many : length so_far ≡ i = length-take-le i packets (omega (arith, within)) in
    let its_copy : copy ≡ first_copy (length so_far) k.net p =
    is_copy
    ∙ (ap (λ (x : NetPlan). record { packet = i; key = x.block.key + p.index; payload = p.payload; hop = 0 }) (get_or_from_slice_get nets p.net k.net n k.is_net)
    ∙ ap (λ j. first_copy j k.net p) (sym many)) in
    let with_it : State → ℕ → McCopy → State = λ x w c. record x { unsent = push_at x.unsent w c (slice_get x.unsent w) } in
    step
    ∙ (ap (λ x. with_it x v copy) before
    ∙ (ap (λ w. with_it (opened_mesh u nets so_far) w copy) vertex
    ∙ (ap (λ c. with_it (opened_mesh u nets so_far) k.source c) its_copy
    ∙ (ap (λ l. record (empty_mesh u) { unsent = l }) (opened_more u.spots nets so_far p k.net k.source k.is_net k.vertex k.below)
    ∙ ap (opened_mesh u nets) (sym (next within))))))
  where
    next : i < length packets → take (i + 1) packets ≡ take i packets ++ slice_index_or packets i d ∷ []
    next below = take_more packets i d below
