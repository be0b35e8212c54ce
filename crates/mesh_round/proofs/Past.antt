-- What has passed a place of a way stays past it: so in a round a packet passes each place at most once, and each step past it counts.
use Rattle.mesh_round.proofs.Common.{Among, AreNetsOn, AreRight, Bag, Block, Bool, Contains, Description, Exit, IsKeyOf, IsMesh, IsRight, IsWayOn, Label, List, Mark, MeetsLedger, Moved, NetPlan}
use Rattle.mesh_round.proofs.Common.{Setup, Spot, Stands, State, Station, [], among_contains, and_from, and_parts, ap, arith, at_core, bit_and, cases_Bool, cases_lt, cases_order, count_by, count_come}
use Rattle.mesh_round.proofs.Common.{count_left, counted, delivered, dumped, eq-eqb, eqb-true, false, in_hand, in_queue, inl, inr, is_on_trail, is_packet_on_trail, le-ltb, lt-ltb, ltb-true, mark_eq}
use Rattle.mesh_round.proofs.Common.{mark_eq_same, mark_eq_true, marks_of, move_comes, move_counts, move_raises, nat_lt, ne_eqb, rank, refl, right_before, right_come, rules, subst, suc, sym, to_go}
use Rattle.mesh_round.proofs.Common.{true, unsent, zero, ℕ, ◌&&◌, ◌+◌, ◌<◌, ◌==◌, ◌^◌, ◌∙◌, ◌∷◌, ◌≡◌, ◌≤◌}
use Rattle.mesh_round.proofs.{CountSums.counts, CountSums.one_if, CountSums.sum_within, Parts.all_come, Parts.all_left, Parts.come_counts, Parts.left_counts, Nearer.move_nears, Sums.sum_agree}
use Rattle.mesh_round.proofs.Sums.{sum_plus}

-- two ways of a net to one target are one
abbrev pub HasOneWay : Type 0
HasOneWay = (m : Description) (spots : List Spot) (nets : List NetPlan) (net : NetPlan) (target : Spot) (branch other : List Exit) (from begin to end : ℕ) →
    AreNetsOn m spots nets → Contains nets net → IsWayOn m spots net target branch from to → IsWayOn m spots net target other begin end →
    (branch ≡ other) × (from ≡ begin) × (to ≡ end)

-- whether a mark leaves by being sent, taken or got
abbrev pub is_step_at : Station → Bool
is_step_at (unsent v) = true
is_step_at (in_queue c port) = true
is_step_at (in_hand c o) = false
is_step_at (at_core v) = true
is_step_at (delivered v) = false
is_step_at (dumped c o) = false

abbrev pub is_step : Mark → Bool
is_step k = is_step_at k.station

-- ---- each mark of a bag of moves is as the ledger asks

-- a move whose mark passes counts
pub left_one : {s : State} (p : Mark → Bool) (v : Moved s) (vs : List (Moved s)) → Among v vs → p v.leaves ≡ true → 1 ≤ count_left p vs
left_one p v [] a passes = absurd a
left_one p v (w ∷ vs) (inl first) passes = grind arith
left_one p v (w ∷ vs) (inr later) passes = let rest = left_one p v vs later passes in omega (arith, rest)

-- a mark that came has a move
come_among : {s : State} (k : Mark) (vs : List (Moved s)) → 1 ≤ count_come (mark_eq k) vs → (v : Moved s) × Among v vs × Among k v.come
come_among k [] some = absurd (omega (arith, some))
come_among k (v ∷ vs) some = elim (cases_lt 0 (count_by (mark_eq k) v.come)) [
  | inl one ↦ (let found = counted (mark_eq k) v.come (omega (arith, one)) in (v, inl refl, subst (λ (m : Mark). Among m v.come) (sym (mark_eq_true k found.0 found.2)) found.1))
  | inr none ↦ (let rest = come_among k vs (omega (arith, none, some)) in (rest.0, inr rest.1, rest.2))
]

-- where a mark that left passes there is its move
pub left_move : {s : State} (p : Mark → Bool) (vs : List (Moved s)) → 1 ≤ count_left p vs → (v : Moved s) × Among v vs × (p v.leaves ≡ true)
left_move p [] some = absurd (omega (arith, some))
left_move p (v ∷ vs) some = elim (cases_Bool (p v.leaves)) [
  | inl is ↦ (v, inl refl, is)
  | inr other ↦ (let none : one_if (p v.leaves) ≡ 0 = ap one_if other in let rest = left_move p vs (omega (arith, none, some)) in (rest.0, inr rest.1, rest.2))
]

module _ (s t : State) (nets : List NetPlan) (labels : ℕ → Label) (mesh : IsMesh s) (right : AreRight s.setup.machine s.setup.tables nets)
    (ledger : MeetsLedger s nets labels) (bag : Bag s t) where
  abbrev Right : Mark → Type 0
  Right k = IsRight s t nets labels mesh right ledger k

  -- a mark was there before, or came
  abbrev pub Occurs : Mark → Type 0
  Occurs k = 1 ≤ count_by (mark_eq k) (marks_of s) + count_come (mark_eq k) bag.moves

  -- such a mark is as the ledger asks: by induction on how far it is on
  right_below : (n : ℕ) (k : Mark) → rank k < n → Occurs k → Right k
  right_below zero k far some = absurd (omega (arith, far))
  right_below (suc n) k far some = elim (cases_lt 0 (count_by (mark_eq k) (marks_of s))) [
    | inl was ↦
        let found = counted (mark_eq k) (marks_of s) (omega (arith, was)) in
        right_before s t nets labels mesh right ledger k (among_contains k (marks_of s) (subst (λ (m : Mark). Among m (marks_of s)) (sym (mark_eq_true k found.0 found.2)) found.1))
    | inr none ↦
        let of = come_among k bag.moves (omega (arith, none, some)) in
        let v : Moved s = of.0 in
        let raised = move_raises s v.leaves v.come v.small v.is_move k of.2 in
        right_come s t nets labels mesh right ledger v.leaves (right_below n v.leaves (omega (arith, far, raised))
        (omega (arith, left_one (mark_eq v.leaves) v bag.moves of.1 (mark_eq_same v.leaves), bag.balance (mark_eq v.leaves)))) v.come v.is_move k of.2
  ]

  pub occurs_right : (k : Mark) → Occurs k → Right k
  occurs_right k some = right_below (suc (rank k)) k (omega arith) some

  pub leaves_right : (v : Moved s) → Among v bag.moves → Right v.leaves
  leaves_right v a = occurs_right v.leaves (omega (arith, left_one (mark_eq v.leaves) v bag.moves a (mark_eq_same v.leaves), bag.balance (mark_eq v.leaves)))

  pub now_right : (k : Mark) → Among k (marks_of t) → Right k
  now_right k a = occurs_right k (omega (arith, counts (mark_eq k) k (marks_of t) a (mark_eq_same k), bag.balance (mark_eq k)))

-- ---- places of ways

-- whether a key is in a block
abbrev pub is_block_key : Block → ℕ → Bool
is_block_key block key = nat_lt key (2 ^ 32) && (bit_and key block.mask == block.key)

-- A place of a way, for a packet of the way's net: how far a mark still has to go there.
pub record Milestone (u : Setup) (nets : List NetPlan) : Type 0 where
  pub packet : ℕ
  pub net : NetPlan
  pub in_nets : Contains nets net
  pub target : Spot
  pub branch : List Exit
  pub from : ℕ
  pub to : ℕ
  pub way : IsWayOn u.machine u.spots net target branch from to
  pub far : ℕ

-- the place of a mark that is as the ledger asks
abbrev pub milestone_of : (m n : State) (nets : List NetPlan) (labels : ℕ → Label) (mesh : IsMesh m) (right : AreRight m.setup.machine m.setup.tables nets)
    (ledger : MeetsLedger m nets labels) (x : Mark) → IsRight m n nets labels mesh right ledger x → Milestone m.setup nets
milestone_of m n nets labels mesh right ledger x r = record {
  packet = x.copy.packet;
  net = r.net;
  in_nets = r.in_nets;
  target = r.trail.target;
  branch = r.trail.branch;
  from = r.trail.from;
  to = r.trail.to;
  way = r.trail.way;
  far = to_go x;
}

-- where a number is less than one more than another, it is less or the same; and it is that or the other is less
order : (t d : ℕ) → (one_if (nat_lt t (suc d)) ≡ one_if (t == d) + one_if (nat_lt t d)) × (1 ≡ one_if (nat_lt t (suc d)) + one_if (nat_lt d t))
order t d = grind (arith, cases_order t d, lt-ltb, eq-eqb, le-ltb, ne_eqb)

by_order : (b : Bool) (t d : ℕ) → (one_if (b && nat_lt t (suc d)) ≡ one_if (b && (t == d)) + one_if (b && nat_lt t d)) × (one_if b ≡ one_if (b && nat_lt t (suc d)) + one_if (b && nat_lt d t))
by_order b t d = grind (arith, order)

module _ {u : Setup} {nets : List NetPlan} (x : Milestone u nets) where
  abbrev pub on : Mark → Bool
  on = is_on_trail x.from x.to x.branch

  -- whether a mark is of the packet, on the way; nearer than so far; just at the place; or before it
  abbrev pub on_way : Mark → Bool
  on_way y = is_block_key x.net.block y.copy.key && is_packet_on_trail x.packet x.from x.to x.branch y

  abbrev pub nearer : ℕ → Mark → Bool
  nearer d y = on_way y && nat_lt (to_go y) d

  abbrev pub here : Mark → Bool
  here y = on_way y && (to_go y == x.far)

  abbrev pub before : Mark → Bool
  before y = on_way y && nat_lt x.far (to_go y)

  pub on_parts : (y : Mark) → on_way y ≡ true → IsKeyOf x.net.block y.copy.key × (y.copy.packet ≡ x.packet) × (on y ≡ true)
  on_parts y is = grind (arith, and_parts, eqb-true, ltb-true)

  pub on_from : (y : Mark) → IsKeyOf x.net.block y.copy.key → y.copy.packet ≡ x.packet → on y ≡ true → on_way y ≡ true
  on_from y key packet is = grind (arith, and_from, eq-eqb, nat_lt, lt-ltb)

  -- those nearer than one more are those there and those nearer, and the others are before it
  pub by_place : (marks : List Mark) →
      (count_by (nearer (suc x.far)) marks ≡ count_by here marks + count_by (nearer x.far) marks) × (count_by on_way marks ≡ count_by (nearer (suc x.far)) marks + count_by before marks)
  by_place marks = (
    sum_agree (λ y. one_if (nearer (suc x.far) y)) (λ y. one_if (here y) + one_if (nearer x.far y)) marks (λ y a. (by_order (on_way y) (to_go y) x.far).0)
        ∙ sum_plus (λ y. one_if (here y)) (λ y. one_if (nearer x.far y)) marks,
    sum_agree (λ y. one_if (on_way y)) (λ y. one_if (nearer (suc x.far) y) + one_if (before y)) marks (λ y a. (by_order (on_way y) (to_go y) x.far).1)
        ∙ sum_plus (λ y. one_if (nearer (suc x.far) y)) (λ y. one_if (before y)) marks,
  )

  -- for a mesh of the setup that meets the ledger
  module _ (m : State) (same : m.setup ≡ u) (labels : ℕ → Label) (ledger : MeetsLedger m nets labels) where
    way_in : IsWayOn m.setup.machine m.setup.spots x.net x.target x.branch x.from x.to
    way_in = subst (λ (v : Setup). IsWayOn v.machine v.spots x.net x.target x.branch x.from x.to) (sym same) x.way

    -- the packet has at most one mark on the way
    pub one_on_way : count_by on_way (marks_of m) ≤ 1
    one_on_way = elim (cases_lt 0 (count_by on_way (marks_of m))) [
      | inl some ↦
          let found = counted on_way (marks_of m) (omega (arith, some)) in
          let k : Mark = found.0 in
          let parts = on_parts k found.2 in
          let once = ledger.once_on_each k (among_contains k (marks_of m) found.1) x.net x.in_nets parts.0 x.target x.branch x.from x.to way_in in
          let within = sum_within (λ y. one_if (on_way y)) (λ y. one_if (is_packet_on_trail k.copy.packet x.from x.to x.branch y)) (marks_of m)
          (λ y a. grind (arith, cases_Bool (on_way y), on_parts y, parts, and_from, eq-eqb)) in
          omega (arith, once, within)
      | inr none ↦ omega (arith, none)
    ]

    module _ (stand : Stands m x.net) where
      -- a mark on the way that moves leads to one that is nearer
      one_nears : (d : ℕ) (v : Moved m) → one_if (nearer (suc d) v.leaves) ≤ count_by (nearer d) v.come
      one_nears d v = elim (cases_Bool (nearer (suc d) v.leaves)) [
        | inl is ↦
            let parts = and_parts (on_way v.leaves) (nat_lt (to_go v.leaves) (suc d)) is in
            let of = on_parts v.leaves parts.0 in
            let kept = move_counts m x.net stand x.target x.target x.branch x.branch x.from x.from x.to x.to way_in way_in v.leaves v.come v.is_move of.0 of.2 in
            let one : one_if (on v.leaves) ≡ 1 = ap one_if of.2 in
            let found = counted on v.come (omega (arith, kept, one)) in
            let y : Mark = found.0 in
            let comes = move_comes m x.net stand x.target x.branch x.from x.to way_in v.leaves v.come v.is_move of.0 of.2 y found.1 in
            let low = ltb-true (to_go v.leaves) (suc d) parts.1 in
            let near = move_nears m v.leaves v.come v.small v.is_move y found.1 in
            let there = and_from (on_way y) (nat_lt (to_go y) d) (on_from y (subst (λ k. IsKeyOf x.net.block k) (sym comes.key) of.0) (comes.packet ∙ of.1) found.2)
            (lt-ltb (to_go y) d (omega (arith, low, near))) in
            let first : one_if (nearer (suc d) v.leaves) ≡ 1 = ap one_if is in
            omega (arith, first, counts (nearer d) y v.come found.1 there)
        | inr other ↦ let first : one_if (nearer (suc d) v.leaves) ≡ 0 = ap one_if other in omega (arith, first)
      ]

      all_near : (d : ℕ) (vs : List (Moved m)) → count_left (nearer (suc d)) vs ≤ count_come (nearer d) vs
      all_near d [] = omega arith
      all_near d (v ∷ vs) = omega (arith, one_nears d v, all_near d vs)

      module _ (n : State) (bag : Bag m n) where
        -- those past the place stay past it, and each that leaves it is past it then
        pub stays_past : count_by (nearer x.far) (marks_of m) + count_left here bag.moves ≤ count_by (nearer x.far) (marks_of n)
        stays_past = search (rules, by_place, all_left, left_counts, all_near)

        -- Those that were at the place, those that came there, and those that are still before it, are at most one.
        pub passed_once : count_by on_way (marks_of n) ≤ 1 → count_by here (marks_of m) + count_come here bag.moves + count_by before (marks_of n) ≤ 1
        passed_once one = search (rules, by_place, all_come, come_counts, all_near)
