-- What the searches of a port, an output and a core find.
use Rattle.mesh_core.proofs.Common.{All, All-contains, Among, At, Bool, Chip, Contains, CoreQueue, Delivered, Delivery, Description, DumpRec, Dumped, Edge, Hand, HandAt, InQueue, IsFound, IsInside}
use Rattle.mesh_core.proofs.Common.{IsMarkThere, IsMesh, IsOfCore, IsOfOutput, IsOfPort, IsRoutingTree, IsTracked, List, Mark, McCopy, NetPlan, None, Option, Out, Port, Some, Spot, State, Station}
use Rattle.mesh_core.proofs.Common.{TellsStation, Where, among_any, among_contains, and_from, and_parts, any_among, ap, arith, at_core, chip_eq, chip_eq_same, chip_eq_true, contains_among, delivered}
use Rattle.mesh_core.proofs.Common.{dumped, eq-eqb, eqb-true, false, get_or, in_hand, in_queue, index_of, index_of-chip_of, inl, inr, is_held, list_any, live_ends, live_inside, marks_of, out_eq}
use Rattle.mesh_core.proofs.Common.{out_eq_same, out_eq_true, position, position_nowhere, position_there, queue_at, refl, same_Some, slice_get, slice_get-get_or, slice_get_within, slice_index_or}
use Rattle.mesh_core.proofs.Common.{subst, sym, true, vertex_at, ℕ, ◌&&◌, ◌==◌, ◌∙◌, ◌≡◌, ◌⊎◌}
use Rattle.mesh_core.proofs.Standing.{among_outs, StandsAt, mark_stands, queued_mark, held_mark, core_mark, delivered_mark, dumped_mark, place_of_queue}
use Rattle.mesh_core.proofs.{MarkTests.two_alike, Moves.mark, Ways.vertex_at_stands}

module _ (s : State) (packet : ℕ) where
  -- a mark of the mesh at a station stands there
  stands_there : (k : Mark) → Contains (marks_of s) k → (at : Station) → k.station ≡ at → StandsAt s k.copy at
  stands_there k has at there = subst (λ (p : Station). StandsAt s k.copy p) there (mark_stands s k (contains_among k (marks_of s) has))

  -- a mark of a copy of the packet at such a station is found there
  found_mark : (IsThere : Station → Type 0) (k : McCopy) (at : Station) (w : Where) → Among (mark k at) (marks_of s) → k.packet ≡ packet → IsThere at →
      TellsStation s k at w → IsMarkThere s packet IsThere w
  found_mark IsThere k at w a is there told = grind (arith, mark k at, mark, among_contains (mark k at) (marks_of s) a)

  -- a queue without a copy of the packet
  none_among : (q : List McCopy) (k : McCopy) → list_any (λ d. d.packet == packet) q ≡ false → Among k q → k.packet ≡ packet → ⊥
  none_among q k none a is = grind (arith, eq-eqb k.packet packet is, among_any)

  -- ---- an input queue

  pub queue_has : (c : Chip) (port : Port) → IsInside s.setup.machine c → (q : List McCopy) → slice_get s.inputs (queue_at s.setup.machine c port) ≡ Some q →
      list_any (λ k. k.packet == packet) q ≡ true → IsMarkThere s packet (IsOfPort c port) (At (InQueue c port))
  queue_has c port inside q at yes' =
      let k = any_among (λ (k : McCopy). k.packet == packet) q yes' in
      found_mark (IsOfPort c port) k.0 (in_queue c port) (At (InQueue c port)) (queued_mark s c port inside k.0 q at k.1) (eqb-true k.0.packet packet k.2) refl refl

  pub queue_lacks : (c : Chip) (port : Port) → IsInside s.setup.machine c → (q : List McCopy) → slice_get s.inputs (queue_at s.setup.machine c port) ≡ Some q →
      list_any (λ k. k.packet == packet) q ≡ false → IsFound s packet (IsOfPort c port) None
  queue_lacks c port inside q at none k has is_packet there =
      let stands : StandsAt s k.copy (in_queue c port) = stands_there k has (in_queue c port) there in
      let place : stands.0 ≡ queue_at s.setup.machine c port = place_of_queue s.setup.machine c port stands.0 inside stands.3 stands.4 in
      let one : stands.1 ≡ q = same_Some stands.1 q (sym stands.2 ∙ (ap (slice_get s.inputs) place ∙ at)) in
      none_among q k.copy none (subst (λ (l : List McCopy). Among k.copy l) one stands.5) is_packet

  -- ---- an output

  pub hand_has : (c : Chip) (o : Out) → IsInside s.setup.machine c → is_held packet o (slice_get s.hands (index_of s.setup.machine c)) ≡ true →
      IsMarkThere s packet (IsOfOutput c o) (At (HandAt c o))
  hand_has c o inside yes' = by_hand (slice_get s.hands (index_of s.setup.machine c)) refl yes'
    where
      by_hand : (x : Option (Option Hand)) → slice_get s.hands (index_of s.setup.machine c) ≡ x → is_held packet o x ≡ true →
          IsMarkThere s packet (IsOfOutput c o) (At (HandAt c o))
      by_hand (Some (Some h)) at held =
          let parts = and_parts (h.copy.packet == packet) (list_any (out_eq o) h.outs) held in
          found_mark (IsOfOutput c o) h.copy (in_hand c o) (At (HandAt c o)) (held_mark s c o inside h at (among_outs o h.outs parts.1)) (eqb-true h.copy.packet packet parts.0) (inl refl) refl
      by_hand (Some None) at held = cc
      by_hand None at held = cc

  -- whether a dump record is of the packet and the output
  abbrev is_dump : Chip → Out → DumpRec → Bool
  is_dump c o r = (chip_eq r.chip c && out_eq r.out o) && (r.copy.packet == packet)

  pub dump_has : (c : Chip) (o : Out) (i : ℕ) → position (is_dump c o) s.dumped ≡ Some i → IsMarkThere s packet (IsOfOutput c o) (Dumped i)
  dump_has c o i is =
      let nothing : DumpRec = record { chip = c; out = o; copy = record { packet = 0; key = 0; payload = None; hop = 0 } } in
      let r = position_there (is_dump c o) s.dumped i nothing is in
      let parts = and_parts (chip_eq r.0.chip c && out_eq r.0.out o) (r.0.copy.packet == packet) r.3 in
      let place = and_parts (chip_eq r.0.chip c) (out_eq r.0.out o) parts.0 in
      found_mark (IsOfOutput c o) r.0.copy (dumped r.0.chip r.0.out) (Dumped i) (dumped_mark s r.0 r.2) (eqb-true r.0.copy.packet packet parts.1)
      (inr (two_alike dumped r.0.chip c r.0.out o (chip_eq_true r.0.chip c place.0) (out_eq_true r.0.out o place.1))) (i, r.1, refl)

  pub output_lacks : (c : Chip) (o : Out) → IsInside s.setup.machine c → is_held packet o (slice_get s.hands (index_of s.setup.machine c)) ≡ false →
      position (is_dump c o) s.dumped ≡ None → IsFound s packet (IsOfOutput c o) None
  output_lacks c o inside none nowhere k has is_packet (inl there) =
      let stands : StandsAt s k.copy (in_hand c o) = stands_there k has (in_hand c o) there in
      let h : Hand = stands.1 in
      let place : stands.0 ≡ index_of s.setup.machine c = sym (index_of-chip_of s.setup.machine stands.0) ∙ ap (index_of s.setup.machine) stands.3 in
      let at : slice_get s.hands (index_of s.setup.machine c) ≡ Some (Some h) = ap (slice_get s.hands) (sym place) ∙ stands.2 in
      let serves : list_any (out_eq o) h.outs ≡ true = among_any (out_eq o) o h.outs stands.5 (out_eq_same o) in
      let of_packet : (h.copy.packet == packet) ≡ true = eq-eqb h.copy.packet packet (ap (λ (d : McCopy). d.packet) stands.4 ∙ is_packet) in
      let held : is_held packet o (Some (Some h)) ≡ true = and_from (h.copy.packet == packet) (list_any (out_eq o) h.outs) of_packet serves in
      let also : is_held packet o (Some (Some h)) ≡ false = ap (is_held packet o) (sym at) ∙ none in
      cc
  output_lacks c o inside none nowhere k has is_packet (inr there) =
      let r : DumpRec = record { chip = c; out = o; copy = k.copy } in
      let stands : Among r s.dumped = stands_there k has (dumped c o) there in
      position_nowhere (is_dump c o) s.dumped r nowhere stands
      (and_from (chip_eq c c && out_eq o o) (k.copy.packet == packet)
      (and_from (chip_eq c c) (out_eq o o) (chip_eq_same c) (out_eq_same o)) (eq-eqb k.copy.packet packet is_packet))

  -- ---- a core

  -- whether a delivery is of the packet and to the vertex
  abbrev is_delivery : ℕ → Delivery → Bool
  is_delivery v d = (d.vertex == v) && (d.copy.packet == packet)

  pub delivery_has : (spot : Spot) (v i : ℕ) → vertex_at s.setup.spots spot ≡ Some v → position (is_delivery v) s.delivered ≡ Some i →
      IsMarkThere s packet (IsOfCore s spot) (Delivered i)
  delivery_has spot v i is_vertex is =
      let nothing : Delivery = record { vertex = 0; copy = record { packet = 0; key = 0; payload = None; hop = 0 } } in
      let d = position_there (is_delivery v) s.delivered i nothing is in
      let parts = and_parts (d.0.vertex == v) (d.0.copy.packet == packet) d.3 in
      found_mark (IsOfCore s spot) d.0.copy (delivered d.0.vertex) (Delivered i) (delivered_mark s d.0 d.2) (eqb-true d.0.copy.packet packet parts.1)
      (v, is_vertex, inr (ap delivered (eqb-true d.0.vertex v parts.0))) (i, d.1, refl)

  pub core_has : (spot : Spot) (v : ℕ) (q : List McCopy) → vertex_at s.setup.spots spot ≡ Some v → slice_get s.cores v ≡ Some q →
      list_any (λ k. k.packet == packet) q ≡ true → IsMarkThere s packet (IsOfCore s spot) (At (CoreQueue spot.chip spot.core))
  core_has spot v q is_vertex at yes' =
      let k = any_among (λ (k : McCopy). k.packet == packet) q yes' in
      found_mark (IsOfCore s spot) k.0 (at_core v) (At (CoreQueue spot.chip spot.core)) (core_mark s v k.0 q at k.1) (eqb-true k.0.packet packet k.2)
      (v, is_vertex, inl refl) (spot, vertex_at_stands s.setup.spots spot v is_vertex, refl)

  pub core_lacks : (spot : Spot) (v : ℕ) (q : List McCopy) → vertex_at s.setup.spots spot ≡ Some v → position (is_delivery v) s.delivered ≡ None →
      slice_get s.cores v ≡ Some q → list_any (λ k. k.packet == packet) q ≡ false → IsFound s packet (IsOfCore s spot) None
  core_lacks spot v q is_vertex nowhere at none k has is_packet there = by_station there.0 there.1 there.2
    where
      by_station : (w : ℕ) → vertex_at s.setup.spots spot ≡ Some w → (k.station ≡ at_core w) ⊎ (k.station ≡ delivered w) → ⊥
      by_station w is (inl here) =
          let stands : StandsAt s k.copy (at_core w) = stands_there k has (at_core w) here in
          let same : w ≡ v = same_Some w v (sym is ∙ is_vertex) in
          let one : stands.0 ≡ q = same_Some stands.0 q (sym stands.1 ∙ (ap (slice_get s.cores) same ∙ at)) in
          none_among q k.copy none (subst (λ (l : List McCopy). Among k.copy l) one stands.2) is_packet
      by_station w is (inr here) =
          let d : Delivery = record { vertex = w; copy = k.copy } in
          let stands : Among d s.delivered = stands_there k has (delivered w) here in
          position_nowhere (is_delivery v) s.delivered d nowhere stands
          (and_from (w == v) (k.copy.packet == packet) (eq-eqb w v (same_Some w v (sym is ∙ is_vertex))) (eq-eqb k.copy.packet packet is_packet))

-- ---- what the code of a search knows

-- the queue of a vertex's core is in the list
pub core_queue_there : (s : State) → IsMesh s → (spot : Spot) (v : ℕ) → vertex_at s.setup.spots spot ≡ Some v → (q d : List McCopy) →
    d ≡ slice_index_or s.cores v d → q ≡ d → slice_get s.cores v ≡ Some q
core_queue_there s mesh spot v is_vertex q d is same = grind (arith, vertex_at_stands, slice_get_within, slice_get-get_or)

-- the edges of a tracked packet's net begin inside the grid
pub edges_inside : (s : State) (net : NetPlan) (packet : ℕ) → IsTracked s net packet → All (λ e. IsInside s.setup.machine e.chip) net.tree.edges
edges_inside s net packet tracked =
    let m : Description = s.setup.machine in
    let tree : IsRoutingTree m net.tree.root net.tree.edges net.targets =
    All-contains (λ n. IsRoutingTree m n.tree.root n.tree.edges n.targets) tracked.nets net tracked.ledger.nets_stand.trees tracked.in_nets in
    λ k d below. let e : Edge = get_or net.tree.edges k d in live_inside m e.chip (live_ends m e.chip e.dir (tree.edges_live k d below)).2
