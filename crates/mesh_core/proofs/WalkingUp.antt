-- Walking up a branch from its target finds the target's copy of a packet.
use Rattle.mesh_core.proofs.Common.{All, All-contains, AreNetsOn, ByLink, Chip, ComesBy, Contains, Edge, Exit, IsBranch, IsEdgeInto, IsFound, IsFoundThere, IsInside, IsLiveChip, IsMarkThere, IsMesh}
use Rattle.mesh_core.proofs.Common.{IsOfCore, IsOfOutput, IsOfPort, IsRoutingTree, IsSite, IsTracked, IsWayOn, IsWhere, Link, List, Local, Mark, NetPlan, None, Option, Out, Port, Some, Spot, State}
use Rattle.mesh_core.proofs.Common.{Station, TellsStation, Unsent, Where, among_contains, and_from, and_parts, ap, arith, arrival_at, at_core, branch_inside, branch_short, cases_order, comes_by}
use Rattle.mesh_core.proofs.Common.{count_by, delivered, dumped, end_of, eq-eqb, eqb-true, exit_of, in_hand, in_queue, inl, inr, is_on_trail, is_packet_on_trail, length, map, marks_of, on_trail}
use Rattle.mesh_core.proofs.Common.{one_edge_into, opposite_of, out_of, port_behind, refl, rules, same_place, site_parts, slice_get, slice_get_within, subst, suc, sym, true, unsent, way_first, zero}
use Rattle.mesh_core.proofs.Common.{ℕ, ◌&&◌, ◌*◌, ◌+◌, ◌<◌, ◌==◌, ◌∙◌, ◌≡◌, ◌≢◌, ◌≤◌, ◌⊎◌}
use Rattle.mesh_core.proofs.{MarkTests.two_alike, Ways.OnSomeTrail, Ways.some_way, Tracked.on_net, Tracked.once_on_way, OneWay.same_branch, OneWay.last_place, Counting.counted, Law.leaves_parts}
use Rattle.mesh_core.proofs.Law.{leaves_from, ComesThere, comes_parts, comes_from}

-- ---- how far the walk has come

-- a copy is before a place of a branch: unsent, or its hop number is below
abbrev pub IsBefore : ℕ → ℕ → Station → Type 0
IsBefore n hop (unsent v) = Unit {0}
IsBefore n hop (in_queue c port) = hop < n
IsBefore n hop (in_hand c o) = hop < n
IsBefore n hop (at_core v) = ⊥
IsBefore n hop (delivered v) = ⊥
IsBefore n hop (dumped c o) = hop < n

-- After so many steps up a branch the walk is at an exit of it, and the packet's mark on the trail is not behind that
-- exit.
pub record WalkedOn (s : State) (packet : ℕ) (branch : List Exit) (from to steps : ℕ) (chip : Chip) (out : Out) : Type 0 where
  pub place : ℕ
  pub is_place : place + 1 + steps ≡ length branch
  pub at : slice_get branch place ≡ Some (record { chip = chip; out = out })
  pub before : (k : Mark) → Contains (marks_of s) k → k.copy.packet ≡ packet → is_on_trail from to branch k ≡ true →
      IsBefore (place + 1) k.copy.hop k.station

abbrev pub Walked : State → NetPlan → ℕ → Spot → ℕ → Chip → Out → Type 0
Walked s net packet target steps chip out =
    (branch : List Exit) (from to : ℕ) → IsWayOn s.setup.machine s.setup.spots net target branch from to → WalkedOn s packet branch from to steps chip out

-- the exit before a place, where this edge leads into the place's chip
abbrev Prior : List Exit → ℕ → Option Edge → Type 0
Prior xs zero None = Unit {0}
Prior xs zero (Some e) = ⊥
Prior xs (suc i) None = ⊥
Prior xs (suc i) (Some e) = slice_get xs i ≡ Some (exit_of e)

module _ (s : State) (net : NetPlan) (packet : ℕ) (tracked : IsTracked s net packet) (target : Spot) (is_target : Contains net.targets target) where
  stand : AreNetsOn s.setup.machine s.setup.spots tracked.nets
  stand = tracked.ledger.nets_stand

  tree : IsRoutingTree s.setup.machine net.tree.root net.tree.edges net.targets
  tree = All-contains (λ n. IsRoutingTree s.setup.machine n.tree.root n.tree.edges n.targets) tracked.nets net stand.trees tracked.in_nets

  on_spot : Contains s.setup.spots target
  on_spot =
      All-contains (Contains s.setup.spots) net.targets target
      (All-contains (λ n. All (Contains s.setup.spots) n.targets) tracked.nets net stand.targets tracked.in_nets) is_target

  pub target_is_site : IsMesh s → IsSite s.setup.machine target
  target_is_site mesh = All-contains (IsSite s.setup.machine) s.setup.spots target mesh.sites on_spot

  -- the root of the net's tree is the chip of a vertex, so live
  root_lives : IsMesh s → IsLiveChip s.setup.machine net.tree.root
  root_lives mesh =
      let source = All-contains (λ n. Contains s.setup.spots n.source) tracked.nets net stand.sources tracked.in_nets in
      let site : IsSite s.setup.machine net.source = All-contains (IsSite s.setup.machine) s.setup.spots net.source mesh.sites source in
      subst (λ (c : Chip). IsLiveChip s.setup.machine c) (sym (All-contains (λ n. n.tree.root ≡ n.source.chip) tracked.nets net stand.roots tracked.in_nets))
      (site_parts s.setup.machine net.source site).0

  -- ---- the ways to the target

  -- there is a way of the net to the target
  a_way : (branch : List Exit) × (from : ℕ) × (to : ℕ) × IsWayOn s.setup.machine s.setup.spots net target branch from to
  a_way = some_way s.setup.machine s.setup.spots tracked.nets stand net tracked.in_nets target is_target

  -- branches that pass a chip pass it at one place and come in at one port
  one_place_of : (t u : Spot) (xs ys : List Exit) → IsBranch s.setup.machine net.tree.root net.tree.edges t xs → IsBranch s.setup.machine net.tree.root net.tree.edges u ys →
      (i j : ℕ) (x y : Exit) → slice_get xs i ≡ Some x → slice_get ys j ≡ Some y → x.chip ≡ y.chip → (i ≡ j) × (arrival_at xs i ≡ arrival_at ys j)
  one_place_of = same_place s.setup.machine net.tree.root net.tree.edges (map (λ x. x.chip) net.targets) tree

  -- ---- a mark of the packet on the target's branch is on the target's trail

  module _ (xs : List Exit) (from to : ℕ) (way : IsWayOn s.setup.machine s.setup.spots net target xs from to) where
    -- a mark whose station is this is on the trail where the station is
    on_by : (k : Mark) (at : Station) → k.station ≡ at → on_trail from to xs k.copy.hop at ≡ true → is_on_trail from to xs k ≡ true
    on_by k at is on = ap (on_trail from to xs k.copy.hop) is ∙ on

    leaves_on : (k : Mark) → Contains (marks_of s) k → k.copy.packet ≡ packet → (i : ℕ) (c : Chip) (o : Out) →
        slice_get xs i ≡ Some (record { chip = c; out = o }) → IsOfOutput c o k.station → is_on_trail from to xs k ≡ true
    leaves_on k has is_packet i c o at there = grind (arith, on_by, leaves_from, leaves, leaves_parts)
      where
        u : OnSomeTrail s net k
        u = on_net s net packet tracked k has is_packet

        leaves : slice_get u.branch k.copy.hop ≡ Some (record { chip = c; out = o }) → slice_get xs k.copy.hop ≡ Some (record { chip = c; out = o })
        leaves on = grind (arith, one_place_of target u.target xs u.branch way.is_branch u.way.is_branch i k.copy.hop (record { chip = c; out = o }) (record { chip = c; out = o }) at on refl)

    pub comes_on : (k : Mark) → Contains (marks_of s) k → k.copy.packet ≡ packet → (i : ℕ) (c : Chip) (o : Out) (port : Port) →
        slice_get xs i ≡ Some (record { chip = c; out = o }) → k.station ≡ in_queue c port → is_on_trail from to xs k ≡ true
    comes_on k has is_packet i c o port at is =
        let u = on_net s net packet tracked k has is_packet in
        let on = sym (ap (on_trail u.from u.to u.branch k.copy.hop) is) ∙ u.on in
        let there : ComesThere u.branch k.copy.hop c port = comes_parts u.branch k.copy.hop c port on in
        let one = one_place_of target u.target xs u.branch way.is_branch u.way.is_branch i k.copy.hop
        (record { chip = c; out = o }) there.exit at there.at (sym there.chip) in
        let here : ComesThere xs k.copy.hop c port =
        record {
          exit = record { chip = c; out = o };
          at = ap (slice_get xs) (sym one.0) ∙ at;
          chip = refl;
          port_is = ap (arrival_at xs) (sym one.0) ∙ (one.1 ∙ there.port_is);
        } in
        on_by k (in_queue c port) is (comes_from xs k.copy.hop c port here)

    -- a mark at the target's vertex
    pub ends_on : (k : Mark) → Contains (marks_of s) k → k.copy.packet ≡ packet → IsOfCore s target k.station → is_on_trail from to xs k ≡ true
    ends_on k has is_packet there = grind (arith, on_by, v, at_end)
      where
        u : OnSomeTrail s net k
        u = on_net s net packet tracked k has is_packet

        v : ℕ
        v = there.0

        is_to : v ≡ to
        is_to = let e = there.1 in let f = way.ends in cc

        at_end : ((v == u.to) && (k.copy.hop == length u.branch)) ≡ true → ((v == to) && (k.copy.hop == length xs)) ≡ true
        at_end on =
            let its_to : v ≡ u.to = eqb-true v u.to ((and_parts (v == u.to) (k.copy.hop == length u.branch) on).0) in
            let hop : k.copy.hop ≡ length u.branch = eqb-true k.copy.hop (length u.branch) ((and_parts (v == u.to) (k.copy.hop == length u.branch) on).1) in
            let other : IsWayOn s.setup.machine s.setup.spots net u.target u.branch u.from to =
            subst (λ n. IsWayOn s.setup.machine s.setup.spots net u.target u.branch u.from n) (sym its_to ∙ is_to) u.way in
            let one = same_branch s.setup.machine s.setup.spots tracked.nets stand net tracked.in_nets u.target target u.branch xs u.from from to other way in
            and_from (v == to) (k.copy.hop == length xs) (eq-eqb v to is_to) (eq-eqb k.copy.hop (length xs) (hop ∙ ap length one))

    -- ---- answers

    only_one : count_by (is_packet_on_trail packet from to xs) (marks_of s) ≡ 1
    only_one = once_on_way s net packet tracked target xs from to way

    told_by : (k : Mark) → Contains (marks_of s) k → k.copy.packet ≡ packet → is_on_trail from to xs k ≡ true → (w : Where) →
        TellsStation s k.copy k.station w → IsFoundThere s packet xs from to w
    told_by k has is_packet on w told = grind (arith, only_one, and_from, eq-eqb)

    -- the packet's mark on the trail, where none is but unsent
    told_unsent : ((k : Mark) → Contains (marks_of s) k → k.copy.packet ≡ packet → is_on_trail from to xs k ≡ true → IsBefore 0 k.copy.hop k.station) →
        IsFoundThere s packet xs from to Unsent
    told_unsent before = grind (arith, counted, only_one, among_contains, eqb-true, and_parts, told_by)

  -- ---- the steps of the walk

  -- what is found on the way is the target's copy

  found_by : (IsThere : Station → Type 0) → ((xs : List Exit) (from to : ℕ) → IsWayOn s.setup.machine s.setup.spots net target xs from to →
      (k : Mark) → Contains (marks_of s) k → k.copy.packet ≡ packet → IsThere k.station → is_on_trail from to xs k ≡ true) →
      (w : Where) → IsMarkThere s packet IsThere w → IsWhere s net packet target w
  found_by IsThere on w found xs from to way = search (rules, told_by)

  pub found_at_core : (w : Where) → IsMarkThere s packet (IsOfCore s target) w → IsWhere s net packet target w
  found_at_core = found_by (IsOfCore s target) ends_on

  pub found_at_output : (steps : ℕ) (chip : Chip) (out : Out) → Walked s net packet target steps chip out →
      (w : Where) → IsMarkThere s packet (IsOfOutput chip out) w → IsWhere s net packet target w
  found_at_output steps chip out walked = found_by _ (λ xs from to way k has is_packet there. let on = walked xs from to way in leaves_on xs from to way k has is_packet on.place chip out on.at there)

  pub found_at_port : (steps : ℕ) (chip : Chip) (out : Out) (port : Port) → Walked s net packet target steps chip out →
      (w : Where) → IsMarkThere s packet (IsOfPort chip port) w → IsWhere s net packet target w
  found_at_port steps chip out port walked = found_by (IsOfPort chip port) (λ xs from to way k has is_packet there.
      let on = walked xs from to way in comes_on xs from to way k has is_packet on.place chip out port on.at there)

  -- the walk begins at the target's output, where nothing was found at its vertex

  pub walk_begins : IsFound s packet (IsOfCore s target) None → Walked s net packet target 0 target.chip (out_of target.core)
  walk_begins none xs from to way =
      let last = last_place s.setup.machine net tree target xs way.is_branch in
      record { place = last.0; is_place = let n = last.2 in omega arith; at = last.1; before = λ k has is_packet on. by_station last.0 last.2 k has is_packet k.station refl on }
    where
      by_station : (i : ℕ) → i + 1 ≡ length xs → (k : Mark) → Contains (marks_of s) k → k.copy.packet ≡ packet → (at : Station) → k.station ≡ at →
          on_trail from to xs k.copy.hop at ≡ true → IsBefore (i + 1) k.copy.hop at
      by_station i long k has is_packet (unsent v) is on = tt
      by_station i long k has is_packet (in_queue c port) is on = grind (arith, ComesThere, comes_parts, slice_get_within)
      by_station i long k has is_packet (in_hand c o) is on = grind (arith, slice_get_within, leaves_parts)
      by_station i long k has is_packet (at_core v) is on =
          let same : v ≡ to = eqb-true v to ((and_parts (v == to) (k.copy.hop == length xs) on).0) in
          none k has is_packet (v, way.ends ∙ ap Some (sym same), inl is)
      by_station i long k has is_packet (delivered v) is on =
          let same : v ≡ to = eqb-true v to ((and_parts (v == to) (k.copy.hop == length xs) on).0) in
          none k has is_packet (v, way.ends ∙ ap Some (sym same), inr is)
      by_station i long k has is_packet (dumped c o) is on = grind (arith, slice_get_within, leaves_parts)

  -- the walk is at a chip inside the grid
  pub walk_inside : IsMesh s → (steps : ℕ) (chip : Chip) (out : Out) → Walked s net packet target steps chip out → IsInside s.setup.machine chip
  walk_inside mesh steps chip out walked =
      let w = a_way in
      let on = walked w.0 w.1 w.2 w.3 in
      branch_inside s.setup.machine net.tree.root net.tree.edges (map (λ x. x.chip) net.targets) tree (root_lives mesh) target w.0 w.3.is_branch on.place
      (record { chip = chip; out = out }) on.at

  -- the walk has fewer steps than the grid has chips
  pub walk_short : IsMesh s → (steps : ℕ) (chip : Chip) (out : Out) → Walked s net packet target steps chip out → s.setup.machine.width * s.setup.machine.height ≤ steps → ⊥
  walk_short mesh steps chip out walked many =
      let w = a_way in
      let on = walked w.0 w.1 w.2 w.3 in
      let short : length w.0 ≤ s.setup.machine.width * s.setup.machine.height =
      branch_short s.setup.machine net.tree.root net.tree.edges (map (λ x. x.chip) net.targets) tree (root_lives mesh) target w.0 w.3.is_branch in
      omega arith

  -- the edge into a place's chip tells the port there, and the exit before
  record Queue (xs : List Exit) (i : ℕ) (edge : Option Edge) : Type 0 where
    arrives : arrival_at xs i ≡ port_behind edge
    prior : Prior xs i edge

  behind_place : (xs : List Exit) (from to : ℕ) → IsWayOn s.setup.machine s.setup.spots net target xs from to → (i : ℕ) (x : Exit) → slice_get xs i ≡ Some x →
      (edge : Option Edge) → IsEdgeInto s.setup.machine net.tree.edges x.chip edge → Queue xs i edge
  behind_place xs from to way zero x at None none = record { arrives = refl; prior = tt }
  behind_place xs from to way zero x at (Some e) into =
      let root : x.chip ≡ net.tree.root = way_first s.setup.machine net.tree.edges target net.tree.root xs x way.is_branch at in
      absurd (All-contains (λ f. end_of s.setup.machine f ≢ Some net.tree.root) net.tree.edges e tree.none_into_root into.0 (into.1 ∙ ap Some root))
  behind_place xs from to way (suc i) x at None none = grind (arith, comes_by s.setup.machine net.tree.edges target net.tree.root Local xs i x way.is_branch at, All-contains)
  behind_place xs from to way (suc i) x at (Some e) into =
      let by : ComesBy s.setup.machine net.tree.edges xs Local i x.chip = comes_by s.setup.machine net.tree.edges target net.tree.root Local xs i x way.is_branch at in
      let one : by.edge ≡ e =
      one_edge_into s.setup.machine net.tree.root net.tree.edges (map (λ y. y.chip) net.targets) tree by.edge e x.chip by.in_tree into.0 by.leads into.1 in
      record {
        arrives = by.arrives ∙ ap (λ (f : Edge). ByLink (opposite_of f.dir)) one;
        prior = by.before ∙ ap (λ (f : Edge). Some (exit_of f)) one;
      }

  -- where nothing was found at the exit and at the port, the packet's mark is before the place
  narrowed : (xs : List Exit) (from to : ℕ) → IsWayOn s.setup.machine s.setup.spots net target xs from to → (i : ℕ) (c : Chip) (o : Out) (port : Port) →
      slice_get xs i ≡ Some (record { chip = c; out = o }) → arrival_at xs i ≡ port → IsFound s packet (IsOfOutput c o) None →
      IsFound s packet (IsOfPort c port) None → (k : Mark) → Contains (marks_of s) k → k.copy.packet ≡ packet → is_on_trail from to xs k ≡ true →
      IsBefore (i + 1) k.copy.hop k.station → IsBefore i k.copy.hop k.station
  narrowed xs from to way i c o port at arrives none none_in k has is_packet on before = by_station k.station refl on before
    where
      -- the hop number is below the place, or the mark's exit is that of the place
      lower : (x : Exit) → slice_get xs k.copy.hop ≡ Some x → k.copy.hop < i + 1 → (k.copy.hop ≡ i → x ≡ record { chip = c; out = o } → ⊥) → k.copy.hop < i
      lower x its below never = grind (arith, cases_order k.copy.hop i)

      leaving : (d : Chip) (p : Out) → (let x : Exit = record { chip = d; out = p } in x ≡ record { chip = c; out = o }) →
          (k.station ≡ in_hand d p) ⊎ (k.station ≡ dumped d p) → ⊥
      leaving d p same is = none k has is_packet (subst (λ (x : Exit). IsOfOutput x.chip x.out k.station) same is)

      by_station : (st : Station) → k.station ≡ st → on_trail from to xs k.copy.hop st ≡ true → IsBefore (i + 1) k.copy.hop st → IsBefore i k.copy.hop st
      by_station (unsent v) is on' b = tt
      by_station (in_queue d p) is on' b =
          let there : ComesThere xs k.copy.hop d p = comes_parts xs k.copy.hop d p on' in
          lower there.exit there.at b (λ same exit.
          let chips : d ≡ c = sym there.chip ∙ ap (λ (x : Exit). x.chip) exit in
          let ports : p ≡ port = sym there.port_is ∙ (ap (arrival_at xs) same ∙ arrives) in
          none_in k has is_packet (is ∙ two_alike in_queue d c p port chips ports))
      by_station (in_hand d p) is on' b =
          lower (record { chip = d; out = p }) (leaves_parts xs k.copy.hop d p on') b (λ same exit. leaving d p exit (inl is))
      by_station (at_core v) is on' b = b
      by_station (delivered v) is on' b = b
      by_station (dumped d p) is on' b =
          lower (record { chip = d; out = p }) (leaves_parts xs k.copy.hop d p on') b (λ same exit. leaving d p exit (inr is))

  -- the walk goes on by the edge into the chip
  pub walk_goes_on : (steps : ℕ) (chip : Chip) (out : Out) → Walked s net packet target steps chip out → IsFound s packet (IsOfOutput chip out) None →
      (e : Edge) → IsEdgeInto s.setup.machine net.tree.edges chip (Some e) → IsFound s packet (IsOfPort chip (port_behind (Some e))) None →
      Walked s net packet target (steps + 1) e.chip (Link e.dir)
  walk_goes_on steps chip out walked none e into none_in xs from to way =
      let on = walked xs from to way in
      let x : Exit = record { chip = chip; out = out } in
      let back = behind_place xs from to way on.place x on.at (Some e) into in
      by_place on.place on.is_place back.prior
      (λ k has is_packet on'. narrowed xs from to way on.place chip out (port_behind (Some e)) on.at back.arrives none none_in k has is_packet on'
      (on.before k has is_packet on'))
    where
      by_place : (i : ℕ) → i + 1 + steps ≡ length xs → Prior xs i (Some e) →
          ((k : Mark) → Contains (marks_of s) k → k.copy.packet ≡ packet → is_on_trail from to xs k ≡ true → IsBefore i k.copy.hop k.station) →
          WalkedOn s packet xs from to (steps + 1) e.chip (Link e.dir)
      by_place i long prior before = grind arith

  -- where no edge leads into the chip, the copy is unsent
  pub walk_ends : (steps : ℕ) (chip : Chip) (out : Out) → Walked s net packet target steps chip out → IsFound s packet (IsOfOutput chip out) None →
      IsEdgeInto s.setup.machine net.tree.edges chip None → IsFound s packet (IsOfPort chip Local) None → IsWhere s net packet target Unsent
  walk_ends steps chip out walked none into none_in xs from to way =
      let on = walked xs from to way in
      let x : Exit = record { chip = chip; out = out } in
      let back = behind_place xs from to way on.place x on.at None into in
      by_place on.place back.prior
      (λ k has is_packet on'. narrowed xs from to way on.place chip out Local on.at back.arrives none none_in k has is_packet on'
      (on.before k has is_packet on'))
    where
      by_place : (i : ℕ) → Prior xs i None →
          ((k : Mark) → Contains (marks_of s) k → k.copy.packet ≡ packet → is_on_trail from to xs k ≡ true → IsBefore i k.copy.hop k.station) →
          IsFoundThere s packet xs from to Unsent
      by_place zero prior before = told_unsent xs from to way before
      by_place (suc i) prior before = absurd prior
