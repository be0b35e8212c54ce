-- Each event that is enabled makes the marks of a mesh lighter.
use Rattle.mesh_drain.proofs.Common.{All, All-at, Among, Chip, Crosses, Event, FitsHand, FitsQueue, Hand, IfSome, IsMesh, IsMove, IsUnderWayAt, List, Mark, McCopy, Option, Out, Port, PutIn, Some}
use Rattle.mesh_drain.proofs.Common.{StandsAt, State, Station, TakenOut, [], after_event, among_contains, among_only, among_taken_out, ap, arith, at_core, delivered, dumped, event_exchange, few_come}
use Rattle.mesh_drain.proofs.Common.{heavy_grows, in_queue, inl, inr, last_hop, light, map, mark, mark_stands, marks_of, min, mul-le-mul_left, one_heavy, refl, stage, step_of, subst, suc, sum_by}
use Rattle.mesh_drain.proofs.Common.{sum_by-append, sum_by-cons, sym, unsent, ℕ, ◌*◌, ◌+◌, ◌-◌, ◌<◌, ◌^◌, ◌∙◌, ◌∷◌, ◌≡◌, ◌≤◌}
use Rattle.mesh_core.specs.{Trail.in_hand, Heavy.heavy}
use Rattle.mesh_drain.specs.UnderWay.{advance, advance_weight_of, weight_in}

-- ---- weights

advance_below : (x : Mark) → x.copy.hop ≤ last_hop → advance x < 4 * last_hop + 4
unfolding advance
advance_below x small = grind arith

-- what is true of each of a list is true of one of them
of_all : {X : Type 0} (P : X → Type 0) (x : X) (xs : List X) → All P xs → Among x xs → P x
of_all P x xs all a = let at = among_contains x xs a in subst P at.2 (all at.0 x at.1)

in_a_queue : {capacity : ℕ} (k : McCopy) (q : List McCopy) → FitsQueue capacity q → Among k q → k.hop ≤ last_hop
in_a_queue k q fits a = let below = of_all (λ (x : McCopy). x.hop < 2 ^ 32) k q fits.hops a in omega (arith, below)

-- a copy that a router holds, or dropped, has not the greatest hop number
HasNext : McCopy → Station → Type 0
HasNext k (in_hand c o) = k.hop < last_hop
HasNext k (unsent v) = Unit {0}
HasNext k (in_queue c port) = Unit {0}
HasNext k (at_core v) = Unit {0}
HasNext k (delivered v) = Unit {0}
HasNext k (dumped c o) = k.hop < last_hop

has_next : (s : State) → IsMesh s → (k : McCopy) (at : Station) → IsUnderWayAt at → StandsAt s k at → HasNext k at
unfolding HasNext
has_next s mesh k (in_hand c o) under (i, h, there, chip, is, a) =
    let fits : FitsHand h = All-at (λ (x : Option Hand). IfSome x FitsHand) s.hands i (Some h) mesh.hands_fit there in
    subst (λ (y : McCopy). y.hop < last_hop) is (let below = fits.hop in omega (arith, below))
has_next s mesh k (unsent v) under stands = tt
has_next s mesh k (in_queue c port) under stands = tt
has_next s mesh k (at_core v) under stands = tt
has_next s mesh k (delivered v) under stands = absurd under
has_next s mesh k (dumped c o) under stands = absurd under

-- and no copy's hop number is above the last one
small_under_way : (s : State) → IsMesh s → (k : McCopy) (at : Station) → IsUnderWayAt at → StandsAt s k at → k.hop ≤ last_hop
small_under_way s mesh k (unsent v) under (q, there, a) =
    let start = All-at (λ (l : List McCopy). All (λ x. x.hop ≡ 0) l) s.unsent v q mesh.unsent_at_start there in
    let none : k.hop ≡ 0 = of_all (λ (x : McCopy). x.hop ≡ 0) k q start a in
    omega (arith, none)
small_under_way s mesh k (in_queue c port) under (i, q, there, chip, number, a) = in_a_queue k q (All-at (FitsQueue s.setup.capacity) s.inputs i q mesh.inputs_within there) a
small_under_way s mesh k (in_hand c o) under (i, h, there, chip, is, a) =
    let fits : FitsHand h = All-at (λ (x : Option Hand). IfSome x FitsHand) s.hands i (Some h) mesh.hands_fit there in
    subst (λ (y : McCopy). y.hop ≤ last_hop) is (let below = fits.hop in omega (arith, below))
small_under_way s mesh k (at_core v) under (q, there, a) = in_a_queue k q (All-at (FitsQueue s.setup.capacity) s.cores v q mesh.cores_within there) a
small_under_way s mesh k (delivered v) under stands = absurd under
small_under_way s mesh k (dumped c o) under stands = absurd under

-- each mark that comes is further on than the one that leaves
move_advances : (s : State) (x : Mark) (come : List Mark) → HasNext x.copy x.station → IsMove s x come → (y : Mark) → Among y come → advance x < advance y
unfolding advance HasNext
move_advances s x come next move y is_come = grind (arith, one, mark, taking, Among, crossing)
  where
    one : (k : McCopy) (at : Station) (z : Mark) → come ≡ z ∷ [] → 4 * k.hop + stage at < 4 * z.copy.hop + stage z.station → 4 * k.hop + stage at < 4 * y.copy.hop + stage y.station
    one k at z is more = subst (λ (u : Mark). 4 * k.hop + stage at < 4 * u.copy.hop + stage u.station) (sym (among_only z y come is is_come)) more

    further : (n i : ℕ) → i ≤ 3 → n < last_hop → 4 * n + i < 4 * min (n + 1) last_hop + 1
    further n i low below = omega (arith, low, below)

    crossing : (k : McCopy) (c : Chip) (o : Out) (at : Station) → stage at ≤ 3 → k.hop < last_hop → Crosses s k c o come → 4 * k.hop + stage at < 4 * y.copy.hop + stage y.station
    crossing k c o at low below its_6 = grind (arith, one, mark, further)

    taking : (k : McCopy) (c : Chip) (port : Port) (os : List Out) → Among y (map (λ o. mark k (in_hand c o)) os) → 4 * k.hop + 1 < 4 * y.copy.hop + stage y.station
    taking k c port [] a = absurd a
    taking k c port (o ∷ os) (inl same) = subst (λ (u : Mark). 4 * k.hop + 1 < 4 * u.copy.hop + stage u.station) (sym same) (omega arith)
    taking k c port (o ∷ os) (inr later) = taking k c port os later

-- what comes is lighter than what leaves
come_lighter : (s : State) (x : Mark) (come : List Mark) → x.copy.hop ≤ last_hop → HasNext x.copy x.station → IsMove s x come → sum_by advance_weight_of come < advance_weight_of x
unfolding advance_weight_of heavy
come_lighter s x come small next move = by_bound (4 * last_hop + 4) (advance_below x small) refl
  where
    by_bound : (b : ℕ) → advance x < b → b ≡ 4 * last_hop + 4 → sum_by advance_weight_of come < advance_weight_of x
    by_bound b below is =
        let n : ℕ = b - (advance x + 1) in
        let left : b - advance x ≡ suc n = omega (arith, below) in
        let mine : advance_weight_of x ≡ 25 * heavy n = ap (λ k. heavy (k - advance x)) (sym is) ∙ ap heavy left in
        let each : (y : Mark) → Among y come → advance_weight_of y ≤ heavy n =
        λ y a.
        let fewer : b - advance y ≤ n = omega (arith, move_advances s x come next move y a) in
        subst (λ k. heavy (k - advance y) ≤ heavy n) is (heavy_grows (b - advance y) n fewer) in
        omega (arith, mine, light advance_weight_of come (heavy n) each, mul-le-mul_left (heavy n) (few_come s x come move), one_heavy n)

-- ---- events

-- an event that is enabled makes the marks lighter, since the copy that leaves is under way
pub moved_lighter : (s t : State) (e : Event) → IsMesh s → step_of s e ≡ Some t → weight_in t < weight_in s
unfolding weight_in
moved_lighter s t e mesh is =
    let moves = event_exchange s mesh e t is in
    let x = moves.0 in
    let stands = mark_stands s x.leaves (among_taken_out x.leaves (marks_of s) x.rest x.out) in
    let small = small_under_way s mesh x.leaves.copy x.leaves.station moves.1 stands in
    let lighter = come_lighter s x.leaves x.come small (has_next s mesh x.leaves.copy x.leaves.station moves.1 stands) x.move in
    omega (arith, lighter, sum_taken_out x.leaves (marks_of s) x.rest x.out, sum_put_in x.come x.rest (marks_of t) x.put)
  where
    sum_taken_out : (y : Mark) (from rest : List Mark) → TakenOut y from rest → sum_by advance_weight_of from ≡ sum_by advance_weight_of rest + advance_weight_of y
    sum_taken_out y from rest out = grind (arith, sum_by-append, sum_by-cons)

    sum_put_in : (ys rest to : List Mark) → PutIn ys rest to → sum_by advance_weight_of to ≡ sum_by advance_weight_of rest + sum_by advance_weight_of ys
    sum_put_in ys rest to put = grind (arith, sum_by-append)

-- an event never makes them heavier
pub event_lighter : (s : State) (e : Event) → IsMesh s → weight_in (after_event s e) ≤ weight_in s
event_lighter s e mesh = grind (arith, moved_lighter)
