-- Each round in which a copy moves leaves marks past one more of the places that the packets of a job pass: so there are few such rounds.
use Rattle.mesh_round.proofs.Common.{Among, AreNetsOn, AreRight, Asked, Bag, Flow, HasMoved, HasRounds, IsAsked, IsKeyOf, IsMesh, IsRight, IsWayOn, Label, List, Mark, MeetsJobLedger, MeetsLedger}
use Rattle.mesh_round.proofs.Common.{MoveEach, Moved, NetPlan, None, Option, Packet, Passes, Setup, Some, State, [], and_from, ap, arith, asked_by, asked_of_net, asked_parts, count_by, count_left}
use Rattle.mesh_round.proofs.Common.{eq-eqb, gathered, gathered_among, label_of, last_hop, length, length-append, marks_of, more, most_moves, moves_left, net_in_list, no_rounds, none-some, one_net}
use Rattle.mesh_round.proofs.Common.{refl, rounds_in, same_Some, slice_get, stands, subst, suc, sum_by, sum_by-cons, sym, true, ℕ, ◌+◌, ◌-◌, ◌==◌, ◌∙◌, ◌∷◌, ◌≡◌, ◌≤◌}
use Rattle.mesh_round.proofs.{CountSums.part_of_sum, CountSums.sum_within, FlowLaw.rounds_stand, Milestones.few_stones, Milestones.net_stones, Milestones.step_passed, Past.HasOneWay, Past.Milestone}
use Rattle.mesh_round.proofs.Past.{by_place, here, is_step, leaves_right, left_move, left_one, nearer, on_from, one_on_way, stays_past}
use Rattle.mesh_round.proofs.{RoundBag.bag_of_round, RoundBag.some_steps, Sums.sum_plus}
use Rattle.mesh_round.specs.Work.{to_go}

short_gathered : {X Y : Type 0} (f : ℕ → X → List Y) (g : X → ℕ) → ((i : ℕ) (x : X) → length (f i x) ≤ g x) → (a : ℕ) (xs : List X) → length (gathered f a xs) ≤ sum_by g xs
short_gathered f g few a [] = omega arith
short_gathered f g few a (x ∷ xs) = omega (arith, few a x, short_gathered f g few (a + 1) xs, length-append (f a x) (gathered f (a + 1) xs), sum_by-cons g x xs)

to_go_is : (k : Mark) → to_go k ≡ moves_left (last_hop - k.copy.hop) k.station
unfolding to_go
to_go_is k = refl

-- how many marks are past the places of a list, over all of them
abbrev past_all : {u : Setup} {nets : List NetPlan} → List (Milestone u nets) → State → ℕ
past_all {u} {nets} xs s = sum_by (λ (x : Milestone u nets). count_by (nearer x x.far) (marks_of s)) xs

few_past : {u : Setup} {nets : List NetPlan} (f : Milestone u nets → ℕ) (xs : List (Milestone u nets)) → ((x : Milestone u nets) → f x ≤ 1) → sum_by f xs ≤ length xs
few_past f [] few = omega arith
few_past f (x ∷ xs) few = omega (arith, few x, few_past f xs few, sum_by-cons f x xs)

module _ (u : Setup) (nets : List NetPlan) (packets : List Packet) (stand : AreNetsOn u.machine u.spots nets) (one_way : HasOneWay) where
  abbrev stones_at : ℕ → (p : Packet) (o : Option NetPlan) → slice_get nets p.net ≡ o → List (Milestone u nets)
  stones_at i p (Some net) at = net_stones u nets stand i net (net_in_list nets p net at)
  stones_at i p None at = []

  abbrev stones_of : ℕ → Packet → List (Milestone u nets)
  stones_of i p = stones_at i p (slice_get nets p.net) refl

  -- the places of all packets, which are as few as their moves
  abbrev stones : List (Milestone u nets)
  stones = gathered stones_of 0 packets

  few_stones_of_all : length stones ≤ most_moves nets packets
  few_stones_of_all = grind (arith, short_gathered, few_stones, net_in_list)

  -- ---- one round

  module _ (m n : State) (f : Flow) (mesh : IsMesh m) (after : IsMesh n) (passes : Passes m f n)
      (right : AreRight m.setup.machine m.setup.tables nets) (job : MeetsJobLedger m nets packets) (same : m.setup ≡ u) where
    abbrev bag : Bag m n
    bag = bag_of_round m f n mesh after passes

    abbrev labels : ℕ → Label
    labels i = label_of (asked_by nets packets i)

    ledger : MeetsLedger m nets labels
    ledger = job.ledger.ledger

    abbrev leaving : Milestone u nets → ℕ
    leaving x = count_left (here x) bag.moves

    -- what was past is past, and what left its place is past it then
    all_stay : past_all stones m + sum_by leaving stones ≤ past_all stones n
    all_stay =
        let all = sum_within (λ (x : Milestone u nets). count_by (nearer x x.far) (marks_of m) + leaving x) (λ x. count_by (nearer x x.far) (marks_of n)) stones
        (λ x a. stays_past x m same labels ledger (stands m n nets labels mesh right ledger x.net x.in_nets) n bag) in
        omega (arith, all, sum_plus (λ (x : Milestone u nets). count_by (nearer x x.far) (marks_of m)) leaving stones)

    -- a mark that is sent, taken or got leaves a place of the list
    module _ (v : Moved m) (a : Among v bag.moves) where
      abbrev r : IsRight m n nets labels mesh right ledger v.leaves
      r = leaves_right m n nets labels mesh right ledger bag v a

      abbrev number : ℕ
      number = v.leaves.copy.packet

      was : (b : Asked) × (asked_by nets packets number ≡ Some b)
      was = let it = job.ledger.was_asked r.origin r.was_there in (it.0, ap (asked_by nets packets) (sym r.same_packet) ∙ it.1)

      abbrev asked : IsAsked nets packets number was.0
      asked = asked_parts nets packets number was.0 was.1

      net_is : r.net ≡ asked.net
      net_is =
          let of = asked_of_net nets packets job.of_nets number was.0 was.1 in
          let key : v.leaves.copy.key ≡ was.0.label.key = r.key ∙ ap (λ (o : Option Asked). (label_of o).key) was.1 in
          let first : r.net ≡ was.0.net =
          one_net nets ledger.nets_stand.disjoint r.net was.0.net r.in_nets of.0 v.leaves.copy.key r.is_key (subst (IsKeyOf was.0.net.block) (sym key) of.1) in
          first ∙ ap (λ (b : Asked). b.net) asked.is_asked

      by_net : (o : Option NetPlan) (at : slice_get nets asked.packet.net ≡ o) → is_step v.leaves ≡ true →
          (x : Milestone u nets) × Among x (stones_at number asked.packet o at) × (here x v.leaves ≡ true)
      by_net (Some net) at steps =
          let has = net_in_list nets asked.packet net at in
          let one : asked.net ≡ net = same_Some asked.net net (sym asked.is_net ∙ at) in
          let trail = r.trail in
          let way : IsWayOn u.machine u.spots net trail.target trail.branch trail.from trail.to =
          subst (λ (s : Setup). IsWayOn s.machine s.spots net trail.target trail.branch trail.from trail.to) same
          (subst (λ (x : NetPlan). IsWayOn m.setup.machine m.setup.spots x trail.target trail.branch trail.from trail.to) (net_is ∙ one) trail.way) in
          let it = step_passed u nets stand number net has one_way trail.target trail.branch trail.from trail.to way v.leaves.copy v.leaves.station steps trail.on in
          let x : Milestone u nets = it.place in
          let key : IsKeyOf x.net.block v.leaves.copy.key = subst (λ (k : NetPlan). IsKeyOf k.block v.leaves.copy.key) (net_is ∙ (one ∙ sym it.net_is)) r.is_key in
          (x, it.among, and_from _ (to_go v.leaves == x.far) (on_from x v.leaves key (sym it.packet_is) it.on) (eq-eqb (to_go v.leaves) x.far (to_go_is v.leaves ∙ it.far)))
      by_net None at steps = absurd (none-some asked.net (sym at ∙ asked.is_net))

      leaves_one : is_step v.leaves ≡ true → 1 ≤ sum_by leaving stones
      leaves_one steps =
          let found = by_net (slice_get nets asked.packet.net) refl steps in
          let x : Milestone u nets = found.0 in
          let there = gathered_among stones_of x packets number asked.packet asked.is_packet found.1 in
          omega (arith, part_of_sum leaving x stones there, left_one (here x) v bag.moves a found.2)

    round_passes : HasMoved m f → suc (past_all stones m) ≤ past_all stones n
    round_passes moved =
        let of = left_move is_step bag.moves (some_steps m f n mesh after passes moved) in
        omega (arith, leaves_one of.0 of.1 of.2, all_stay)

-- ---- all rounds

module _ (patience turns : ℕ) (m : State) (nets : List NetPlan) (packets : List Packet) (mesh : IsMesh m)
    (right : AreRight m.setup.machine m.setup.tables nets) (job : MeetsJobLedger m nets packets) (one_way : HasOneWay) where
  abbrev of_job : List (Milestone m.setup nets)
  of_job = stones m.setup nets packets job.ledger.ledger.nets_stand one_way

  so_far : (n : State) (rounds : HasRounds patience turns m n) → MoveEach rounds → rounds_in rounds + past_all of_job m ≤ past_all of_job n
  so_far n no_rounds each = omega arith
  so_far n (more f k n' before after round) each =
      let was = rounds_stand patience turns m k nets packets mesh right job before in
      let one = round_passes m.setup nets packets job.ledger.ledger.nets_stand one_way k n' f was.mesh after round.passes
      (subst (λ (s : Setup). AreRight s.machine s.tables nets) (sym was.setup) right) was.job was.setup each.1 in
      omega (arith, so_far k before each.0, one)

  -- Rounds in which copies move are at most as many as copies can move.
  pub few_rounds : (n : State) (rounds : HasRounds patience turns m n) → MoveEach rounds → rounds_in rounds ≤ most_moves nets packets
  few_rounds n rounds each =
      let was = rounds_stand patience turns m n nets packets mesh right job rounds in
      let few = few_past (λ x. count_by (nearer x x.far) (marks_of n)) of_job (λ x.
      omega (arith, one_on_way x n was.setup (λ i. label_of (asked_by nets packets i)) was.job.ledger.ledger, (by_place x (marks_of n)).0, (by_place x (marks_of n)).1)) in
      omega (arith, so_far n rounds each, few, few_stones_of_all m.setup nets packets job.ledger.ledger.nets_stand one_way)
