-- Where a packet waits, in a mesh that meets the ledger: behind each output that a hand still has to serve there is a queue
-- without a copy of the hand's packet, and no queue has two copies of one packet.
use Rattle.mesh_core.proofs.Common.{All, All-contains, All-each, AllPairs-apart, Among, Bool, ByLink, Chip, Contains, Dir, Exit, ExitLeads, IsInside, IsLiveLink, IsMesh, IsRoutingTree, IsSite}
use Rattle.mesh_core.proofs.Common.{IsTracked, Label, Link, List, Mark, McCopy, MeetsLedger, NetPlan, Out, Port, Queue, Setup, Some, State, Station, among_contains, and_from, and_parts, ap, arith}
use Rattle.mesh_core.proofs.Common.{at_core, behind, behind_link, cases_order, chip_of, contains_among, core, core_marks, count_by, count_by-append, count_by-map, end_is_no_live_link, eq-eqb}
use Rattle.mesh_core.proofs.Common.{eqb-true, exit_leads, far_inside, far_of, get_or_from_slice_get, in_hand, in_queue, inl, input, input_marks, inr, is_on_trail, is_packet_on_trail, length}
use Rattle.mesh_core.proofs.Common.{live_ends, live_inside, marks_at, marks_of, nowhere, opposite_of, out_of, port_of, queue_at, queue_of, refl, same_site, slice_get, slice_get_there}
use Rattle.mesh_core.proofs.Common.{slice_get_within, subst, suc, sym, true, unsent_marks, vertex_behind, ℕ, ◌%◌, ◌++◌, ◌+◌, ◌/◌, ◌<◌, ◌==◌, ◌∙◌, ◌≡◌, ◌≢◌, ◌≤◌}
use Rattle.mesh_core.proofs.{Ways.OnSomeTrail, Ways.vertex_at_stands, Ways.vertex_behind_there, Ways.vertex_behind_stands, Ways.leads_to, Tracked.on_net, Tracked.once_on_way, Standing.input_mark}
use Rattle.mesh_core.proofs.{Standing.queued_mark, Standing.core_mark, Changes.queue_at-below, Counting.count_two, Counting.count_le, Counting.counted, Counting.count_gathered_part, Law.leaves_parts}
use Rattle.mesh_core.proofs.{Law.comes_parts, Moves.behind_inputs, Moves.mark, WalkingUp.comes_on, WalkingUp.ends_on}

-- the queue behind an output, which has no copy of this packet
abbrev pub FreeBehind : State → Chip → Out → ℕ → Type 0
FreeBehind s c o packet = (q : List McCopy) × (queue_of s (behind s.setup c o) ≡ Some q) × All (λ j. j.packet ≢ packet) q

module _ (s : State) (nets : List NetPlan) (labels : ℕ → Label) (ledger : MeetsLedger s nets labels) where
  -- the trail of a mark
  record OnTrail (x : Mark) : Type 0 where
    net : NetPlan
    in_nets : Contains nets net
    tracked : IsTracked s net x.copy.packet
    trail : OnSomeTrail s net x

  trail_of : (x : Mark) → Contains (marks_of s) x → OnTrail x
  trail_of x has =
      let on = ledger.on_a_trail x has in
      let tracked : IsTracked s on.0 x.copy.packet =
      record { nets = nets; labels = labels; ledger = ledger; in_nets = on.1; mark = x; is_mark = has; is_packet = refl; is_key = on.2 } in
      record { net = on.0; in_nets = on.1; tracked = tracked; trail = on_net s on.0 x.copy.packet tracked x has refl }

  -- another mark of the packet is not on the trail
  not_twice : (x : Mark) → Contains (marks_of s) x → (t : OnTrail x) → (y : Mark) → Contains (marks_of s) y → y.copy.packet ≡ x.copy.packet →
      is_on_trail t.trail.from t.trail.to t.trail.branch y ≡ true → x ≢ y → ⊥
  not_twice x has t y there same on apart =
      let p : Mark → Bool = is_packet_on_trail x.copy.packet t.trail.from t.trail.to t.trail.branch in
      let px : p x ≡ true = and_from (x.copy.packet == x.copy.packet) (is_on_trail t.trail.from t.trail.to t.trail.branch x) (eq-eqb x.copy.packet x.copy.packet refl) t.trail.on in
      let py : p y ≡ true = and_from (y.copy.packet == x.copy.packet) (is_on_trail t.trail.from t.trail.to t.trail.branch y) (eq-eqb y.copy.packet x.copy.packet same) on in
      let two = count_two p x y (marks_of s) apart px py (contains_among x (marks_of s) has) (contains_among y (marks_of s) there) in
      absurd (omega (arith, two, once_on_way s t.net x.copy.packet t.tracked t.trail.target t.trail.branch t.trail.from t.trail.to t.trail.way))

  -- ---- behind a hand

  module _ (mesh : IsMesh s) (c : Chip) (o : Out) (k : McCopy) (has : Contains (marks_of s) (mark k (in_hand c o))) where
    abbrev x : Mark
    x = mark k (in_hand c o)

    t : OnTrail (mark k (in_hand c o))
    t = trail_of (mark k (in_hand c o)) has

    -- where the branch goes on there is an input queue at the far end
    behind_edge : (d : Dir) → o ≡ Link d → IsLiveLink s.setup.machine c d → (y : Exit) → far_of s.setup.machine c d ≡ Some y.chip → slice_get t.trail.branch (suc k.hop) ≡ Some y →
        FreeBehind s c o k.packet
    behind_edge d out live y far next =
        let u : Setup = s.setup in
        let port : Port = ByLink (opposite_of d) in
        let i : ℕ = queue_at u.machine y.chip port in
        let in_c : IsInside u.machine c = live_inside u.machine c (live_ends u.machine c d live).2 in
        let inside : IsInside u.machine y.chip = far_inside u.machine c y.chip d in_c far in
        let low : i < length s.inputs = let below = queue_at-below u.machine y.chip port inside in let long = mesh.input_lists in omega (arith, below, long) in
        let q = slice_get_there s.inputs i low in
        let is_behind : behind u c o ≡ input i =
        ap (behind u c) out ∙ (ap (λ b. behind_link u c d b (far_of u.machine c d)) live ∙ ap (behind_link u c d true) far)
        in (
          q.0,
          ap (queue_of s) is_behind ∙ q.1,
          All-each (λ j. j.packet ≢ k.packet) q.0 (λ j in_q same.
              let m : Mark = mark j (in_queue y.chip port) in
              let there : Contains (marks_of s) m = among_contains m (marks_of s) (queued_mark s y.chip port inside j q.0 q.1 (contains_among j q.0 in_q)) in
              not_twice x has t m there same
              (comes_on s t.net k.packet t.tracked t.trail.target t.trail.way.is_target t.trail.branch t.trail.from t.trail.to t.trail.way m there same (suc k.hop) y.chip y.out port next refl)
              (λ e'. let stations : in_hand c o ≡ in_queue y.chip port = ap (λ (z : Mark). z.station) e' in cc)),
        )

    -- where the branch ends there is the queue of the target's vertex
    behind_end : t.trail.target.chip ≡ c → o ≡ out_of t.trail.target.core → FreeBehind s c o k.packet
    behind_end chip out =
        let u : Setup = s.setup in
        let on_spot : Contains u.spots t.trail.target =
        All-contains (Contains u.spots) t.net.targets t.trail.target (All-contains (λ n. All (Contains u.spots) n.targets) nets t.net ledger.nets_stand.targets t.in_nets) t.trail.way.is_target in
        let site : IsSite u.machine t.trail.target = All-contains (IsSite u.machine) u.spots t.trail.target mesh.sites on_spot in
        let vertex = vertex_behind_there u.spots c o t.trail.target on_spot (leads_to c o t.trail.target chip out) in
        let spot = vertex_behind_stands u.spots c o vertex.0 vertex.1 in
        let its_site : IsSite u.machine spot.0 =
        subst (IsSite u.machine) (get_or_from_slice_get u.spots vertex.0 spot.0 spot.0 spot.1) (mesh.sites vertex.0 spot.0 (slice_get_within u.spots vertex.0 spot.0 spot.1)) in
        let same_spot : spot.0 ≡ t.trail.target = same_site u.machine spot.0 t.trail.target its_site site (spot.2 ∙ sym chip) (spot.3 ∙ out) in
        let goal : slice_get u.spots t.trail.to ≡ Some t.trail.target = vertex_at_stands u.spots t.trail.target t.trail.to t.trail.way.ends in
        let is_to : vertex.0 ≡ t.trail.to = AllPairs-apart u.spots t.trail.target mesh.different vertex.0 t.trail.to (spot.1 ∙ ap Some same_spot) goal in
        let low : vertex.0 < length s.cores = let below = slice_get_within u.spots vertex.0 spot.0 spot.1 in let long = mesh.core_lists in omega (arith, below, long) in
        let q = slice_get_there s.cores vertex.0 low in
        let is_behind : behind u c o ≡ core vertex.0 = to_vertex o out vertex.0 vertex.1 site in (
          q.0,
          ap (queue_of s) is_behind ∙ q.1,
          All-each (λ j. j.packet ≢ k.packet) q.0 (λ j in_q same.
              let m : Mark = mark j (at_core vertex.0) in
              let there : Contains (marks_of s) m = among_contains m (marks_of s) (core_mark s vertex.0 j q.0 q.1 (contains_among j q.0 in_q)) in
              not_twice x has t m there same
              (ends_on s t.net k.packet t.tracked t.trail.target t.trail.way.is_target t.trail.branch t.trail.from t.trail.to t.trail.way m there same
              (vertex.0, t.trail.way.ends ∙ ap Some (sym is_to), inl refl))
              (λ e'. let stations : in_hand c o ≡ at_core vertex.0 = ap (λ (z : Mark). z.station) e' in cc)),
        )
      where
        to_vertex : (p : Out) → p ≡ out_of t.trail.target.core → (v : ℕ) → vertex_behind s.setup.spots c p ≡ Some v → IsSite s.setup.machine t.trail.target → behind s.setup c p ≡ core v
        to_vertex p is v vertex site = grind (arith, end_is_no_live_link)

    by_end : ExitLeads s.setup.machine t.net.tree.edges t.trail.target t.trail.branch k.hop (record { chip = c; out = o }) → FreeBehind s c o k.packet
    by_end (inl (d, out, in_tree, (y, far, next))) =
        let tree = All-contains (λ n. IsRoutingTree s.setup.machine n.tree.root n.tree.edges n.targets) nets t.net ledger.nets_stand.trees t.in_nets in
        let live : IsLiveLink s.setup.machine c d = All-contains (λ f. IsLiveLink s.setup.machine f.chip f.dir) t.net.tree.edges (record { chip = c; dir = d }) tree.edges_live in_tree in
        behind_edge d out live y far next
    by_end (inr (chip, out, last)) = behind_end chip out

    -- Behind an output that a hand still has to serve there is a queue without a copy of the hand's packet.
    pub free_behind : FreeBehind s c o k.packet
    free_behind =
        by_end (exit_leads s.setup.machine t.net.tree.edges t.trail.target t.net.tree.root t.trail.branch k.hop (record { chip = c; out = o }) t.trail.way.is_branch
        (leaves_parts t.trail.branch k.hop c o t.trail.on))

  -- ---- in a queue

  -- what is counted in one part is counted in all marks
  in_input_marks : (p : Mark → Bool) → count_by p (input_marks s) ≤ count_by p (marks_of s)
  in_input_marks p = grind (arith, behind_inputs s, count_by-append p (unsent_marks s) (input_marks s ++ (behind_inputs s)), count_by-append p (input_marks s) (behind_inputs s))

  in_core_marks : (p : Mark → Bool) → count_by p (core_marks s) ≤ count_by p (marks_of s)
  in_core_marks p = grind (arith, count_by-append)

  -- a queue whose copies have this station, and whose marks of one packet are on one trail
  once_at : (at : Station) (q : List McCopy) → ((j : McCopy) → Among j q → Contains (marks_of s) (mark j at)) →
      ((p : Mark → Bool) → count_by p (marks_at at q) ≤ count_by p (marks_of s)) →
      ((x : McCopy) (t : OnTrail (mark x at)) → (j : McCopy) → Among j q → j.packet ≡ x.packet → is_on_trail t.trail.from t.trail.to t.trail.branch (mark j at) ≡ true) →
      (n : ℕ) → count_by (λ j. j.packet == n) q ≤ 1
  once_at at q there part same_trail n = elim (cases_order (count_by (λ j. j.packet == n) q) 0) [
    | inl none ↦ omega arith
    | inr (inl below) ↦ absurd (omega arith)
    | inr (inr some) ↦
        let found = counted (λ (j : McCopy). j.packet == n) q (omega (arith, some)) in
        let a : McCopy = found.0 in
        let t : OnTrail (mark a at) = trail_of (mark a at) (there a found.1) in
        let number : a.packet ≡ n = eqb-true a.packet n found.2 in
        let p : Mark → Bool = is_packet_on_trail a.packet t.trail.from t.trail.to t.trail.branch in
        let fewer : count_by (λ j. j.packet == n) q ≤ count_by (λ j. p (mark j at)) q =
        count_le (λ (j : McCopy). j.packet == n) (λ j. p (mark j at)) q (λ j among passes.
        let same : j.packet ≡ a.packet = eqb-true j.packet n passes ∙ sym number in
        and_from (j.packet == a.packet) (is_on_trail t.trail.from t.trail.to t.trail.branch (mark j at)) (eq-eqb j.packet a.packet same) (same_trail a t j among same)) in
        let mapped : count_by p (marks_at at q) ≡ count_by (λ j. p (mark j at)) q = count_by-map p (λ (j : McCopy). mark j at) q in
        omega (arith, fewer, mapped, part p, once_on_way s t.net a.packet t.tracked t.trail.target t.trail.branch t.trail.from t.trail.to t.trail.way)
  ]

  -- the mark of a copy in a queue
  abbrev queue_station : Queue → Station
  queue_station (input i) = in_queue (chip_of s.setup.machine (i / 7)) (port_of (i % 7))
  queue_station (core v) = at_core v
  queue_station nowhere = at_core 0

  pub waiting_mark : (b : Queue) (q : List McCopy) → queue_of s b ≡ Some q → (j : McCopy) → Among j q → Contains (marks_of s) (mark j (queue_station b))
  waiting_mark b q at j among = grind (arith, among_contains, mark, input_mark, core_mark)

  pub once_in_queue : (b : Queue) (q : List McCopy) → queue_of s b ≡ Some q → (n : ℕ) → count_by (λ j. j.packet == n) q ≤ 1
  once_in_queue (input i) q at n =
      let c : Chip = chip_of s.setup.machine (i / 7) in
      let port : Port = port_of (i % 7) in
      once_at (in_queue c port) q (waiting_mark (input i) q at)
      (λ p.
      let n_is : 0 + i ≡ i = omega arith in
      let part : count_by p (marks_at (in_queue c port) q) ≤ count_by p (input_marks s) =
      subst (λ l. count_by p (marks_at (in_queue (chip_of s.setup.machine (l / 7)) (port_of (l % 7))) q) ≤ count_by p (input_marks s)) n_is
      (count_gathered_part (λ l copies. marks_at (in_queue (chip_of s.setup.machine (l / 7)) (port_of (l % 7))) copies) p 0 s.inputs i q at) in
      omega (arith, part, in_input_marks p))
      (λ x t j among same.
      let there = comes_parts t.trail.branch x.hop c port t.trail.on in
      let place : slice_get t.trail.branch x.hop ≡ Some (record { chip = c; out = there.exit.out }) =
      there.at ∙ ap (λ (d : Chip). let z : Exit = record { chip = d; out = there.exit.out } in Some z) there.chip in
      comes_on s t.net x.packet t.tracked t.trail.target t.trail.way.is_target t.trail.branch t.trail.from t.trail.to t.trail.way (mark j (in_queue c port)) (waiting_mark (input i) q at j among) same
      x.hop c there.exit.out port place refl)
      n
  once_in_queue (core v) q at n =
      once_at (at_core v) q (waiting_mark (core v) q at)
      (λ p.
      let n_is : 0 + v ≡ v = omega arith in
      let part : count_by p (marks_at (at_core v) q) ≤ count_by p (core_marks s) =
      subst (λ l. count_by p (marks_at (at_core l) q) ≤ count_by p (core_marks s)) n_is (count_gathered_part (λ l copies. marks_at (at_core l) copies) p 0 s.cores v q at) in
      omega (arith, part, in_core_marks p))
      (λ x t j among same.
      let is_to : v ≡ t.trail.to = eqb-true v t.trail.to ((and_parts (v == t.trail.to) (x.hop == length t.trail.branch) t.trail.on).0) in
      ends_on s t.net x.packet t.tracked t.trail.target t.trail.way.is_target t.trail.branch t.trail.from t.trail.to t.trail.way (mark j (at_core v)) (waiting_mark (core v) q at j among) same
      (v, t.trail.way.ends ∙ ap Some (sym is_to), inl refl))
      n
  once_in_queue nowhere q at n = cc
