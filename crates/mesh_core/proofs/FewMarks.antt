-- A mesh that meets the ledger of a job has few marks: at most one for each packet and each target of its net.
use Rattle.mesh_core.proofs.Common.{All, All-contains, Among, AreNetsOn, Asked, Bool, Contains, Exit, IsTracked, IsWayOn, List, Mark, MeetsJobLedger, NetPlan, Packet, Some, Spot, State, []}
use Rattle.mesh_core.proofs.Common.{among_contains, and_from, ap, arith, asked_by, contains_among, count_by, delivered, dumped, eqb-true, inl, inr, is_on_trail, is_packet_on_trail, length}
use Rattle.mesh_core.proofs.Common.{length-append, length-map, marks_of, mul-le-mul_left, refl, slice_get_there, slice_get_within, subst, suc, sym, true, ℕ, ◌*◌, ◌+◌, ◌<◌, ◌==◌, ◌^◌, ◌∷◌, ◌≡◌, ◌≤◌}
use Rattle.mesh_core.proofs.{Tracked.asked_tracked, Tracked.on_net, Tracked.once_on_way, Ordered.few_different, AskedPackets.asks, AskedPackets.asked_parts, AskedPackets.asked_from}
use Rattle.mesh_core.proofs.{AskedPackets.net_in_list, Counting.count_all, Counting.count_covered, Counting.count_numbered, Moves.mark, OneWay.AWay, OneWay.one_way, Ways.some_way}

-- where each item of a list has something, there is a list of these, as long as it
chosen_for : {X W : Type 0} (R : X → W → Type 0) (xs : List X) → ((x : X) → Among x xs → (w : W) × R x w) →
    (ws : List W) × (length ws ≡ length xs) × ((x : X) → Among x xs → (w : W) × Among w ws × R x w)
chosen_for R [] each = ([], refl, λ x a. absurd a)
chosen_for {X} {W} R (x ∷ xs) each =
    let first = each x (inl refl) in
    let rest = chosen_for R xs (λ y a. each y (inr a)) in (
      first.0 ∷ rest.0,
      ap suc rest.1,
      λ y a. elim a [
        | inl here ↦ (first.0, inl refl, subst (λ (z : X). R z first.0) (sym here) first.1)
        | inr later ↦ let w = rest.2 y later in (w.0, inr w.1, w.2)
      ],
    )

module _ (s : State) (nets : List NetPlan) (packets : List Packet) (job : MeetsJobLedger s nets packets) where
  stand : AreNetsOn s.setup.machine s.setup.spots nets
  stand = job.ledger.ledger.nets_stand

  abbrev Way : NetPlan → Type 0
  Way net = AWay s.setup.machine s.setup.spots net

  -- whether a mark is of a packet and on the trail of a way
  abbrev passes : (n : ℕ) (net : NetPlan) → Way net → Mark → Bool
  passes n net w k = is_packet_on_trail n w.from w.to w.branch k

  module _ (i : ℕ) (a : Asked) (asked : asked_by nets packets i ≡ Some a) (has : Contains nets a.net) where
    tracked : IsTracked s a.net i
    tracked = asked_tracked s nets (asked_by nets packets) job.ledger i a asked

    -- a mark of the packet is on the trail of one of the ways, where each target has one of them
    on_one : (ws : List (Way a.net)) → ((t : Spot) → Among t a.net.targets → (w : Way a.net) × Among w ws × (w.target ≡ t)) →
        (k : Mark) → Among k (marks_of s) → (k.copy.packet == i) ≡ true → (w : Way a.net) × Among w ws × (passes i a.net w k ≡ true)
    on_one ws chosen k there number =
        let u = on_net s a.net i tracked k (among_contains k (marks_of s) there) (eqb-true k.copy.packet i number) in
        let c = chosen u.target (contains_among u.target a.net.targets u.way.is_target) in
        let w : Way a.net = c.0 in
        let its : IsWayOn s.setup.machine s.setup.spots a.net u.target w.branch w.from w.to =
        subst (λ (t : Spot). IsWayOn s.setup.machine s.setup.spots a.net t w.branch w.from w.to) c.2 w.way in
        let same = one_way s.setup.machine s.setup.spots nets stand a.net has u.target u.branch w.branch u.from w.from u.to w.to u.way its in
        let on_it : is_on_trail w.from w.to w.branch k ≡ true =
        subst (λ n. is_on_trail n w.to w.branch k ≡ true) same.1
        (subst (λ n. is_on_trail u.from n w.branch k ≡ true) same.2 (subst (λ (l : List Exit). is_on_trail u.from u.to l k ≡ true) same.0 u.on)) in
        (w, c.1, and_from (k.copy.packet == i) (is_on_trail w.from w.to w.branch k) number on_it)

    -- the packet has at most one mark for each target of its net
    few_of_packet : count_by (λ k. k.copy.packet == i) (marks_of s) ≤ length a.net.targets
    few_of_packet =
        let all = chosen_for (λ (t : Spot) (w : Way a.net). w.target ≡ t) a.net.targets (λ t there.
        let w = some_way s.setup.machine s.setup.spots nets stand a.net has t (among_contains t a.net.targets there) in
        (record { target = t; branch = w.0; from = w.1; to = w.2; way = w.3 }, refl)) in
        let few : count_by (λ k. k.copy.packet == i) (marks_of s) ≤ length all.0 =
        count_covered (passes i a.net) all.0 (λ k. k.copy.packet == i) (marks_of s) (on_one all.0 all.2)
        (λ w b. let one = once_on_way s a.net i tracked w.target w.branch w.from w.to w.way in omega (arith, one)) in
        omega (arith, few, all.1)

  -- the number of a mark's packet is below the number of packets
  pub number_below : (k : Mark) → Contains (marks_of s) k → k.copy.packet < length packets
  number_below k there =
      let asked = job.ledger.was_asked k there in
      let parts = asked_parts nets packets k.copy.packet asked.0 asked.1 in
      slice_get_within packets k.copy.packet parts.packet parts.is_packet

  module _ (most : ℕ) (each : All (λ net. length net.targets ≤ most) nets) where
    few_each : (i : ℕ) → i < length packets → count_by (λ k. k.copy.packet == i) (marks_of s) ≤ most
    few_each i below =
        let at = slice_get_there packets i below in
        let of = job.of_nets i at.0 at.1 in
        let has = net_in_list nets at.0 of.0 of.1 in
        let few = few_of_packet i (asks of.0 at.0) (asked_from nets packets i at.0 of.0 at.1 of.1) has in
        let within : length of.0.targets ≤ most = All-contains (λ (n : NetPlan). length n.targets ≤ most) nets of.0 each has in
        omega arith

    -- Marks are at most the packets times the greatest number of targets.
    pub few_marks : length (marks_of s) ≤ length packets * most
    few_marks =
        let all : count_by (λ k. true) (marks_of s) ≡ length (marks_of s) = count_all (λ k. true) (marks_of s) (λ k a. refl) in
        subst (λ n. n ≤ length packets * most) all
        (count_numbered (λ (k : Mark). k.copy.packet) (length packets) most (λ k. true) (marks_of s)
        (λ k a passes'. number_below k (among_contains k (marks_of s) a)) few_each)

    -- Deliveries and dump records together, too.
    pub few_ends : length s.delivered + length s.dumped ≤ length packets * most
    few_ends = grind (arith, few_marks, length-append, length-map, mark)

  -- the targets of a net are different spots of vertices, so at most as many
  few_targets : All (λ net. length net.targets ≤ length s.setup.spots) nets
  few_targets = grind (arith, few_different)

  pub few_at_limits : length packets ≤ 2 ^ 16 → length s.setup.spots ≤ 2 ^ 14 → length s.delivered + length s.dumped ≤ 2 ^ 30
  few_at_limits few_packets few_vertices = grind (arith, few_ends (length s.setup.spots) few_targets, mul-le-mul_left (length packets) few_vertices)
