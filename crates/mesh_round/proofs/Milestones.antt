-- The places that the packets of a net pass: one is sent from, each chip of the tree is one, and each target. Each step of a mark is past one of them.
use Rattle.mesh_round.proofs.Common.{All-contains, Among, AreNetsOn, Bool, Chip, Contains, Exit, IsBranch, IsRoutingTree, IsTreeChip, IsWayOn, List, Local, McCopy, NetPlan, None, Option, Setup, Some}
use Rattle.mesh_round.proofs.Common.{Spot, Station, [], among_any, among_at, among_contains, among_left, among_right, and_parts, answers_none, any_among, ap, arith, arrival_at, at_core, cases_Bool}
use Rattle.mesh_round.proofs.Common.{chip_eq, chip_eq_same, chip_eq_true, comes_by, comes_from, comes_parts, contains_among, delivered, dumped, end_of, eqb-true, flat_map, in_hand, in_queue, inl, inr}
use Rattle.mesh_round.proofs.Common.{last_hop, length, length-append, length-map, list_any, map, map_among, moves_left, moves_of_packet, on_trail, refl, same_Some, same_place, slice_get}
use Rattle.mesh_round.proofs.Common.{slice_get-get_or, some_way, subst, suc, sym, tree_cases, tree_end, true, true≢false, unsent, way_first, zero, ℕ, ◌&&◌, ◌*◌, ◌++◌, ◌+◌, ◌-◌, ◌==◌, ◌∙◌, ◌∷◌, ◌≡◌}
use Rattle.mesh_round.proofs.Common.{◌≤◌, ◌⊎◌}
use Rattle.mesh_round.proofs.{Joined.among_into, Past.HasOneWay, Past.Milestone, Past.is_step_at}

-- an item of a list passes a test, or none does
some_or_none : {X : Type 0} (p : X → Bool) (xs : List X) → ((x : X) × Among x xs × (p x ≡ true)) ⊎ ((x : X) → Among x xs → p x ≡ true → ⊥)
some_or_none p xs = elim (cases_Bool (list_any p xs)) [
  | inl is ↦ inl (any_among p xs is)
  | inr none ↦ inr (λ x a on. answers_none (list_any p xs) (among_any p x xs a on) none)
]

-- lists of one item at most, joined
few_in_all : {X Y : Type 0} (f : X → List Y) (xs : List X) → ((x : X) → length (f x) ≤ 1) → length (flat_map f xs) ≤ length xs
few_in_all f [] few = omega arith
few_in_all f (x ∷ xs) few = omega (arith, few x, few_in_all f xs few, length-append (f x) (flat_map f xs))

module _ (u : Setup) (nets : List NetPlan) (stand : AreNetsOn u.machine u.spots nets) (packet : ℕ) (net : NetPlan) (has : Contains nets net) where
  -- a way of the net
  record NetWay : Type 0 where
    target : Spot
    branch : List Exit
    from : ℕ
    to : ℕ
    is_way : IsWayOn u.machine u.spots net target branch from to

  abbrev stone : NetWay → ℕ → Milestone u nets
  stone w far = record { packet = packet; net = net; in_nets = has; target = w.target; branch = w.branch; from = w.from; to = w.to; way = w.is_way; far = far }

  -- one for each target
  ways_to : (ts : List Spot) → ((t : Spot) → Among t ts → Contains net.targets t) → List NetWay
  ways_to [] within = []
  ways_to (t ∷ ts) within =
      let it = some_way u.machine u.spots nets stand net has t (within t (inl refl)) in
      record { target = t; branch = it.0; from = it.1; to = it.2; is_way = it.3 } ∷ ways_to ts (λ v a. within v (inr a))

  many_ways : (ts : List Spot) (within : (t : Spot) → Among t ts → Contains net.targets t) → length (ways_to ts within) ≡ length ts
  unfolding ways_to
  many_ways [] within = refl
  many_ways (t ∷ ts) within = ap suc (many_ways ts (λ v a. within v (inr a)))

  way_to : (ts : List Spot) (within : (t : Spot) → Among t ts → Contains net.targets t) (t : Spot) → Among t ts → (w : NetWay) × Among w (ways_to ts within) × (w.target ≡ t)
  unfolding ways_to
  way_to [] within t a = absurd a
  way_to (v ∷ ts) within t (inl same) =
      let it = some_way u.machine u.spots nets stand net has v (within v (inl refl)) in
      (record { target = v; branch = it.0; from = it.1; to = it.2; is_way = it.3 }, inl refl, sym same)
  way_to (v ∷ ts) within t (inr later) = let rest = way_to ts (λ w a. within w (inr a)) t later in (rest.0, inr rest.1, rest.2)

  ways : List NetWay
  ways = ways_to net.targets (λ t a. among_contains t net.targets a)

  -- ---- the places of a chip, of a target, and of sending

  abbrev passes_chip : Chip → NetWay → Bool
  passes_chip c w = list_any (λ (z : Exit). chip_eq z.chip c) w.branch

  -- a way that passes a chip, or that there is none
  abbrev PassesOrNone : Chip → Type 0
  PassesOrNone c = ((w : NetWay) × Among w ways × (passes_chip c w ≡ true)) ⊎ ((w : NetWay) → Among w ways → passes_chip c w ≡ true → ⊥)

  place_on : (c : Chip) (w : NetWay) → passes_chip c w ≡ true → (h : ℕ) × (z : Exit) × (slice_get w.branch h ≡ Some z) × (z.chip ≡ c)
  place_on c w on =
      let z = any_among (λ (z : Exit). chip_eq z.chip c) w.branch on in
      let has = among_contains z.0 w.branch z.1 in
      (has.0, z.0, slice_get-get_or w.branch has.0 z.0 has.1 ∙ ap Some has.2, chip_eq_true z.0.chip c z.2)

  abbrev at_place : (c : Chip) → PassesOrNone c → List (Milestone u nets)
  at_place c (inl (w, a, on)) = stone w (3 * (last_hop - (place_on c w on).0) + 1) ∷ []
  at_place c (inr none) = []

  abbrev at_chip : Chip → List (Milestone u nets)
  at_chip c = at_place c (some_or_none (passes_chip c) ways)

  abbrev at_end : Option Chip → List (Milestone u nets)
  at_end (Some c) = at_chip c
  at_end None = []

  abbrev at_source : List NetWay → List (Milestone u nets)
  at_source [] = []
  at_source (w ∷ ws) = stone w (3 * last_hop + 2) ∷ []

  abbrev at_chips : List (Milestone u nets)
  at_chips = at_chip net.tree.root ++ flat_map (λ e. at_end (end_of u.machine e)) net.tree.edges

  pub net_stones : List (Milestone u nets)
  net_stones = at_source ways ++ (at_chips ++ map (λ w. stone w 1) ways)

  few_at : (c : Chip) (p : PassesOrNone c) → length (at_place c p) ≤ 1
  few_at c (inl (w, a, on)) = omega arith
  few_at c (inr none) = omega arith

  few_at_end : (o : Option Chip) → length (at_end o) ≤ 1
  few_at_end (Some c) = few_at c (some_or_none (passes_chip c) ways)
  few_at_end None = omega arith

  few_at_source : (ws : List NetWay) → length (at_source ws) ≤ 1
  few_at_source [] = omega arith
  few_at_source (w ∷ ws) = omega arith

  -- They are as few as a packet moves.
  pub few_stones : length net_stones ≤ moves_of_packet (Some net)
  unfolding net_stones ways
  few_stones =
      let chips = length-append (at_chip net.tree.root) (flat_map (λ e. at_end (end_of u.machine e)) net.tree.edges) in
      let first = length-append (at_source ways) (at_chips ++ map (λ w. stone w 1) ways) in
      let second = length-append at_chips (map (λ w. stone w 1) ways) in
      let ends = few_in_all (λ e. at_end (end_of u.machine e)) net.tree.edges (λ e. few_at_end (end_of u.machine e)) in
      let many = many_ways net.targets (λ t a. among_contains t net.targets a) in
      omega (arith, first, second, chips, few_at_source ways, few_at_end (Some net.tree.root), ends, length-map ways (λ w. stone w 1), many)

  -- ---- each step is past one

  -- a place of the net's at which a mark stands
  pub record IsPassed (k : McCopy) (at : Station) : Type 0 where
    pub place : Milestone u nets
    pub among : Among place net_stones
    pub packet_is : place.packet ≡ packet
    pub net_is : place.net ≡ net
    pub on : on_trail place.from place.to place.branch k.hop at ≡ true
    pub far : moves_left (last_hop - k.hop) at ≡ place.far

  tree : IsRoutingTree u.machine net.tree.root net.tree.edges net.targets
  tree = All-contains (λ (n : NetPlan). IsRoutingTree u.machine n.tree.root n.tree.edges n.targets) nets net stand.trees has

  -- what a way passes at a chip, the place of the chip passes
  found_place : (c : Chip) (p : PassesOrNone c) (w : NetWay) → Among w ways → passes_chip c w ≡ true →
      (v : NetWay) × (h : ℕ) × (z : Exit) × Among (stone v (3 * (last_hop - h) + 1)) (at_place c p) × (slice_get v.branch h ≡ Some z) × (z.chip ≡ c)
  found_place c (inl (v, a, is)) w b on = let p = place_on c v is in (v, p.0, p.1, inl refl, p.2, p.3)
  found_place c (inr none) w b on = absurd (none w b on)

  -- the places of the tree's chips are in the list
  in_chips : (c : Chip) → IsTreeChip u.machine net.tree.root net.tree.edges c → (x : Milestone u nets) → Among x (at_chip c) → Among x at_chips
  in_chips c on x a = elim (tree_cases u.machine net.tree.root net.tree.edges c on) [
    | inl root ↦
        among_left x (at_chip net.tree.root) (flat_map (λ e. at_end (end_of u.machine e)) net.tree.edges) (subst (λ (d : Chip). Among x (at_chip d)) root a)
    | inr into ↦
        among_right x (at_chip net.tree.root) (flat_map (λ e. at_end (end_of u.machine e)) net.tree.edges)
        (among_into (λ e. at_end (end_of u.machine e)) into.0 x net.tree.edges into.1 (subst (λ (o : Option Chip). Among x (at_end o)) (sym into.2) a))
  ]

  -- a chip on a branch is one of the tree
  on_tree : (t : Spot) (branch : List Exit) → IsBranch u.machine net.tree.root net.tree.edges t branch → (i : ℕ) (x : Exit) → slice_get branch i ≡ Some x →
      IsTreeChip u.machine net.tree.root net.tree.edges x.chip
  on_tree t branch is zero x at = inl (way_first u.machine net.tree.edges t net.tree.root branch x is at)
  on_tree t branch is (suc i) x at = grind (arith, comes_by u.machine net.tree.edges t net.tree.root Local branch i x is at, tree_end)

  in_first : (x : Milestone u nets) → Among x (at_source ways) → Among x net_stones
  unfolding net_stones
  in_first x a = among_left x (at_source ways) (at_chips ++ map (λ w. stone w 1) ways) a

  in_second : (x : Milestone u nets) → Among x at_chips → Among x net_stones
  unfolding net_stones
  in_second x a = among_right x (at_source ways) (at_chips ++ map (λ w. stone w 1) ways) (among_left x at_chips (map (λ w. stone w 1) ways) a)

  in_third : (w : NetWay) → Among w ways → Among (stone w 1) net_stones
  unfolding net_stones
  in_third w a =
      let x : Milestone u nets = stone w 1 in
      among_right x (at_source ways) (at_chips ++ map (λ v. stone v 1) ways) (among_right x at_chips (map (λ v. stone v 1) ways) (map_among (λ v. stone v 1) w ways a))

  by_station : (w : NetWay) → Among w ways → (k : McCopy) (at : Station) → is_step_at at ≡ true → on_trail w.from w.to w.branch k.hop at ≡ true → IsPassed k at
  by_station w a k (unsent q) steps on = by_ways ways a refl
    where
      hop : k.hop ≡ 0
      hop = eqb-true k.hop 0 ((and_parts (q == w.from) (k.hop == 0) on).1)

      by_ways : (ws : List NetWay) → Among w ws → ways ≡ ws → IsPassed k (unsent q)
      by_ways [] none is = absurd none
      by_ways (v ∷ ws) there is =
          let one : w.from ≡ v.from = same_Some w.from v.from (sym w.is_way.begins ∙ v.is_way.begins) in
          record {
            place = stone v (3 * last_hop + 2);
            among = in_first (stone v (3 * last_hop + 2)) (subst (λ (vs : List NetWay). Among (stone v (3 * last_hop + 2)) (at_source vs)) (sym is) (inl refl));
            packet_is = refl;
            net_is = refl;
            on = ap (λ i. (q == i) && (k.hop == 0)) (sym one) ∙ on;
            far = let left : 3 * (last_hop - k.hop) + 2 ≡ 3 * last_hop + 2 = omega (arith, hop) in left;
          }
  by_station w a k (in_queue c port) steps on =
      let there = comes_parts w.branch k.hop c port on in
      let passes = among_any (λ (z : Exit). chip_eq z.chip c) there.exit w.branch (among_at w.branch k.hop there.exit there.at) (ap (λ d. chip_eq d c) there.chip ∙ chip_eq_same c) in
      let found = found_place c (some_or_none (passes_chip c) ways) w a passes in
      let v : NetWay = found.0 in
      let one = same_place u.machine net.tree.root net.tree.edges (map (λ (s : Spot). s.chip) net.targets) tree w.target v.target w.branch v.branch w.is_way.is_branch v.is_way.is_branch
      k.hop found.1 there.exit found.2 there.at found.4 (there.chip ∙ sym found.5) in
      let on_c : IsTreeChip u.machine net.tree.root net.tree.edges c =
      subst (IsTreeChip u.machine net.tree.root net.tree.edges) there.chip (on_tree w.target w.branch w.is_way.is_branch k.hop there.exit there.at) in
      record {
        place = stone v (3 * (last_hop - found.1) + 1);
        among = in_second (stone v (3 * (last_hop - found.1) + 1)) (in_chips c on_c (stone v (3 * (last_hop - found.1) + 1)) found.3);
        packet_is = refl;
        net_is = refl;
        on = comes_from v.branch k.hop c port (record {
          exit = found.2;
          at = ap (slice_get v.branch) one.0 ∙ found.4;
          chip = found.5;
          port_is = ap (arrival_at v.branch) one.0 ∙ (sym one.1 ∙ there.port_is);
        });
        far = ap (λ i. 3 * (last_hop - i) + 1) one.0;
      }
  by_station w a k (in_hand c o) steps on = absurd (true≢false (sym steps))
  by_station w a k (at_core q) steps on = record { place = stone w 1; among = in_third w a; packet_is = refl; net_is = refl; on = on; far = refl }
  by_station w a k (delivered q) steps on = absurd (true≢false (sym steps))
  by_station w a k (dumped c o) steps on = absurd (true≢false (sym steps))

  -- A mark on some way of the net that is sent, taken or got is past a place of the net's.
  pub step_passed : HasOneWay → (target : Spot) (branch : List Exit) (from to : ℕ) → IsWayOn u.machine u.spots net target branch from to →
      (k : McCopy) (at : Station) → is_step_at at ≡ true → on_trail from to branch k.hop at ≡ true → IsPassed k at
  unfolding ways
  step_passed one_way target branch from to is k at steps on =
      let found = way_to net.targets (λ t a. among_contains t net.targets a) target (contains_among target net.targets is.is_target) in
      let w : NetWay = found.0 in
      let own : IsWayOn u.machine u.spots net target w.branch w.from w.to = subst (λ (t : Spot). IsWayOn u.machine u.spots net t w.branch w.from w.to) found.2 w.is_way in
      let one = one_way u.machine u.spots nets net target branch w.branch from w.from to w.to stand has is own in
      by_station w found.1 k at steps
      (subst (λ i. on_trail i w.to w.branch k.hop at ≡ true) one.1
      (subst (λ i. on_trail from i w.branch k.hop at ≡ true) one.2 (subst (λ (xs : List Exit). on_trail from to xs k.hop at ≡ true) one.0 on)))
