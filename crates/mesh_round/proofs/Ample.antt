-- Where queues have room for a copy of each packet of a job, no round dumps a copy.
use Rattle.mesh_round.proofs.Common.{All, All-contains, All-head, Among, AreRight, Bag, Bool, Chip, Contains, Contains-filter, Crosses, DumpRec, Flow, HasRounds, IsKeyOf, IsLiveChip, IsMesh, IsOutput}
use Rattle.mesh_round.proofs.Common.{IsRound, IsWayOn, Label, List, Mark, McCopy, MeetsJobLedger, MeetsLedger, NetPlan, Out, Packet, Passes, Queue, Setup, Spot, Stands, State, Station, WasFullAt, []}
use Rattle.mesh_round.proofs.Common.{among_contains, among_left, among_right, and_from, and_parts, ap, append-nil, arith, asked_by, asked_parts, at_core, behind, capacity_of, cases_Bool, cases_lt}
use Rattle.mesh_round.proofs.Common.{chip_eq, chip_eq_same, chip_of, comes_parts, contains_among, core, count_all, count_by, count_by-append, count_covered, counted, dumped, dumped_at, dumped_mark}
use Rattle.mesh_round.proofs.Common.{eq-eqb, eqb-true, filter, held_in, inl, input, inr, is_on_trail, label_of, last_hop, length, length-append, length-range_with_len, lt-ltb, map_among, mark}
use Rattle.mesh_round.proofs.Common.{marks_at, marks_of, more, move_counts, moves_left, mul-le-mul_left, nat_eq_same, nat_lt, no_rounds, nowhere, on_trail, one_net, one_place, onward, out_eq}
use Rattle.mesh_round.proofs.Common.{out_eq_same, port_of, range_with_len, refl, slice_get_within, stands, subst, sum_by-cons, sym, true, vertex_at_stands, ℕ, ◌%◌, ◌&&◌, ◌*◌, ◌++◌, ◌+◌, ◌-◌, ◌/◌, ◌<◌}
use Rattle.mesh_round.proofs.Common.{◌==◌, ◌∙◌, ◌∷◌, ◌≡◌, ◌≢◌, ◌≤◌}
use Rattle.mesh_round.specs.Work.{to_go}
use Rattle.mesh_round.proofs.{Arrivals.Right, Arrivals.crosses, Arrivals.dumped_right, Arrivals.onward_right, Arrivals.queue_counts, Arrivals.queue_right, Arrivals.somewhere, Past.HasOneWay}
use Rattle.mesh_round.proofs.{Past.Milestone, Past.before, Past.here, Past.on_from, Past.one_on_way, Past.passed_once, Past.milestone_of, CountSums.counts, CountSums.one_if, CountSums.sum_within}
use Rattle.mesh_round.proofs.{Entered.station_of, FlowLaw.round_keeps, FlowLaw.rounds_stand, Nearer.move_nears, RoundBag.bag_of_round, RoundBag.crossing_comes, Sources.number_in_range, Sums.sum_map}

to_go_same : (x y : McCopy) (at : Station) → y.hop ≡ x.hop → to_go (mark y at) ≡ to_go (mark x at)
unfolding to_go
to_go_same x y at same = ap (λ h. moves_left (last_hop - h) at) same

module _ (m : State) (f : Flow) (n : State) (nets : List NetPlan) (packets : List Packet) (mesh : IsMesh m) (after : IsMesh n) (passes : Passes m f n)
    (right : AreRight m.setup.machine m.setup.tables nets) (job : MeetsJobLedger m nets packets) (one_way : HasOneWay) where
  abbrev u : Setup
  u = m.setup

  abbrev labels : ℕ → Label
  labels i = label_of (asked_by nets packets i)

  abbrev ledger : MeetsLedger m nets labels
  ledger = job.ledger.ledger

  abbrev bag : Bag m n
  bag = bag_of_round m f n mesh after passes

  abbrev IsRight : Mark → Type 0
  IsRight k = Right m f n nets labels mesh after passes right ledger k

  stand : (net : NetPlan) → Contains nets net → Stands m net
  stand = stands m n nets labels mesh right ledger

  -- two right marks of a packet are of one net
  same_net : (x y : Mark) (r : IsRight x) (s : IsRight y) → y.copy.packet ≡ x.copy.packet → (s.net ≡ r.net) × (y.copy.key ≡ x.copy.key)
  same_net x y r s same =
      let key : y.copy.key ≡ x.copy.key = s.key ∙ (ap (λ i. (labels i).key) same ∙ sym r.key) in
      (one_net nets ledger.nets_stand.disjoint s.net r.net s.in_nets r.in_nets y.copy.key s.is_key (subst (λ k. IsKeyOf r.net.block k) (sym key) r.is_key), key)

  -- two copies of a packet that stand right at one vertex have passed as many routers
  vertex_hop : (v : ℕ) (x y : McCopy) (r : IsRight (mark x (at_core v))) (s : IsRight (mark y (at_core v))) → y.packet ≡ x.packet → y.hop ≡ x.hop
  vertex_hop v x y r s same =
      let net = (same_net (mark x (at_core v)) (mark y (at_core v)) r s same).0 in
      let way = subst (λ (k : NetPlan). IsWayOn u.machine u.spots k s.trail.target s.trail.branch s.trail.from s.trail.to) net s.trail.way in
      let a = and_parts (v == r.trail.to) (x.hop == length r.trail.branch) r.trail.on in
      let b = and_parts (v == s.trail.to) (y.hop == length s.trail.branch) s.trail.on in
      let on_r = vertex_at_stands u.spots r.trail.target r.trail.to r.trail.way.ends in
      let on_s = vertex_at_stands u.spots s.trail.target s.trail.to way.ends in
      let ends : s.trail.to ≡ r.trail.to = sym (eqb-true v s.trail.to b.0) ∙ eqb-true v r.trail.to a.0 in
      let target : s.trail.target ≡ r.trail.target = cc in
      let its_way = subst (λ (t : Spot). IsWayOn u.machine u.spots r.net t s.trail.branch s.trail.from s.trail.to) target way in
      let branch = (one_way u.machine u.spots nets r.net r.trail.target s.trail.branch r.trail.branch s.trail.from r.trail.from s.trail.to r.trail.to ledger.nets_stand r.in_nets its_way
      r.trail.way).0 in
      eqb-true y.hop (length s.trail.branch) b.1 ∙ (ap length branch ∙ sym (eqb-true x.hop (length r.trail.branch) a.1))

  -- and so have two in one queue
  same_hop : (q : Queue) (x y : McCopy) (r : IsRight (mark x (station_of u q))) (s : IsRight (mark y (station_of u q))) → y.packet ≡ x.packet → y.hop ≡ x.hop
  same_hop (input i) x y r s same =
      let net = (same_net (mark x (station_of u (input i))) (mark y (station_of u (input i))) r s same).0 in
      let way = subst (λ (k : NetPlan). IsWayOn u.machine u.spots k s.trail.target s.trail.branch s.trail.from s.trail.to) net s.trail.way in
      let a = comes_parts r.trail.branch x.hop (chip_of u.machine (i / 7)) (port_of (i % 7)) r.trail.on in
      let b = comes_parts s.trail.branch y.hop (chip_of u.machine (i / 7)) (port_of (i % 7)) s.trail.on in
      (one_place m r.net (stand r.net r.in_nets) s.trail.target r.trail.target s.trail.branch r.trail.branch way.is_branch r.trail.way.is_branch y.hop x.hop b.exit a.exit b.at a.at
      (b.chip ∙ sym a.chip)).0
  same_hop (core v) x y r s same = vertex_hop v x y r s same
  same_hop nowhere x y r s same = vertex_hop 0 x y r s same

  module _ (c : Chip) (o : Out) (live : IsLiveChip u.machine c) (is : IsOutput o) where
    abbrev q : Queue
    q = behind u c o

    abbrev at : Station
    at = station_of u (behind u c o)

    -- all copies that were in the queue at some time of the round
    abbrev all_in : List McCopy
    all_in = held_in m (behind u c o) ++ f.entered (behind u c o)

    right_in : (j : McCopy) → Among j all_in → IsRight (mark j at)
    right_in = queue_right m f n nets labels mesh after passes right ledger c o live is

    module _ (x : McCopy) (r : IsRight (mark x at)) where
      abbrev place : Milestone m.setup nets
      place = milestone_of m n nets labels mesh right ledger (mark x at) r

      abbrev is_here : Mark → Bool
      is_here = here place

      abbrev is_before : Mark → Bool
      is_before = before place

      stands_here : (j : McCopy) → IsRight (mark j at) → j.packet ≡ x.packet → is_here (mark j at) ≡ true
      stands_here j s same =
          let hop = same_hop (behind u c o) x j r s same in
          let on : on_trail r.trail.from r.trail.to r.trail.branch j.hop at ≡ true = ap (λ h. on_trail r.trail.from r.trail.to r.trail.branch h at) hop ∙ r.trail.on in
          let key : IsKeyOf r.net.block j.key = subst (λ (e : NetPlan). IsKeyOf e.block j.key) (same_net (mark x at) (mark j at) r s same).0 s.is_key in
          and_from _ (to_go (mark j at) == to_go (mark x at)) (on_from place (mark j at) key same on) (eq-eqb (to_go (mark j at)) (to_go (mark x at)) (to_go_same x j at hop))

      fewer : (ks : List McCopy) → ((j : McCopy) → Among j ks → IsRight (mark j at)) → count_by (λ (j : McCopy). j.packet == x.packet) ks ≤ count_by is_here (marks_at at ks)
      fewer ks each =
          let mapped = sum_map (λ (j : McCopy). mark j at) (λ y. one_if (is_here y)) ks in
          let within = sum_within (λ (j : McCopy). one_if (j.packet == x.packet)) (λ j. one_if (is_here (mark j at))) ks (λ j a. by_test j (each j a) (j.packet == x.packet) refl) in
          omega (arith, mapped, within)
        where
          by_test : (j : McCopy) → IsRight (mark j at) → (b : Bool) → (j.packet == x.packet) ≡ b → one_if b ≤ one_if (is_here (mark j at))
          by_test j s b its_3 = grind (arith, one_if, mark, stands_here, eqb-true)

      -- of a packet at most one copy was in the queue, and none where one is still before it
      copies_once : count_by (λ (j : McCopy). j.packet == x.packet) all_in + count_by is_before (marks_of n) ≤ 1
      copies_once =
          let both = count_by-append (λ (j : McCopy). j.packet == x.packet) (held_in m (behind u c o)) (f.entered (behind u c o)) in
          let held = fewer (held_in m (behind u c o)) (λ j a. right_in j (among_left j (held_in m (behind u c o)) (f.entered (behind u c o)) a)) in
          let entered = fewer (f.entered (behind u c o)) (λ j a. right_in j (among_right j (held_in m (behind u c o)) (f.entered (behind u c o)) a)) in
          let one = one_on_way place n passes.setup labels (round_keeps m n f nets mesh after passes right labels ledger) in
          let once = passed_once place m refl labels ledger (stand r.net r.in_nets) n bag one in
          omega (arith, both, held, entered, queue_counts m f n nets labels mesh after passes right ledger is_here (behind u c o), crossing_comes m f n mesh after passes is_here c o live is, once)

    -- ---- a dump record of the output

    module _ (k : McCopy) (in_flow : Among (record { chip = c; out = o; copy = k }) f.dumped) (small : k.hop < last_hop) where
      dumped_here : Among k (dumped_at f c o)
      dumped_here =
          let r : DumpRec = record { chip = c; out = o; copy = k } in
          let mine = Contains-filter (λ (e : DumpRec). chip_eq e.chip c && out_eq e.out o) f.dumped r (among_contains r f.dumped in_flow)
          (and_from (chip_eq c c) (out_eq o o) (chip_eq_same c) (out_eq_same o)) in
          map_among (λ (e : DumpRec). e.copy) r (filter (λ (e : DumpRec). chip_eq e.chip c && out_eq e.out o) f.dumped)
          (contains_among r (filter (λ (e : DumpRec). chip_eq e.chip c && out_eq e.out o) f.dumped) mine)

      still_there : Among (mark k (dumped c o)) (marks_of n)
      still_there = grind (arith, among_right (record { chip = c; out = o; copy = k }) m.dumped f.dumped in_flow, dumped_mark, Among)

      hand : IsRight (mark k (dumped c o))
      hand = dumped_right m f n nets labels mesh after passes right ledger c o live k still_there

      leads_to_queue : Crosses m k c o (mark (onward k) at ∷ [])
      leads_to_queue = crosses m f n nets labels mesh after passes right ledger c o live k still_there

      -- the copy as it would stand in the queue
      ghost : IsRight (mark (onward k) at)
      ghost = onward_right m f n nets labels mesh after passes right ledger c o live k still_there

      before_it : is_before (onward k) ghost (mark k (dumped c o)) ≡ true
      before_it =
          and_from _ (nat_lt (to_go (mark (onward k) at)) (to_go (mark k (dumped c o)))) (on_from (place (onward k) ghost) (mark k (dumped c o)) ghost.is_key refl on_it)
          (lt-ltb (to_go (mark (onward k) at)) (to_go (mark k (dumped c o)))
          (move_nears m (mark k (dumped c o)) (mark (onward k) at ∷ []) (omega (arith, small)) leads_to_queue (mark (onward k) at) (inl refl)))
        where
          on : Mark → Bool
          on = is_on_trail ghost.trail.from ghost.trail.to ghost.trail.branch

          on_it : on (mark k (dumped c o)) ≡ true
          on_it =
              let net = (same_net (mark k (dumped c o)) (mark (onward k) at) hand ghost refl).0 in
              let way = subst (λ (e : NetPlan). IsWayOn u.machine u.spots e ghost.trail.target ghost.trail.branch ghost.trail.from ghost.trail.to) net ghost.trail.way in
              let kept = move_counts m hand.net (stand hand.net hand.in_nets) hand.trail.target ghost.trail.target hand.trail.branch ghost.trail.branch hand.trail.from ghost.trail.from
              hand.trail.to ghost.trail.to hand.trail.way way (mark k (dumped c o)) (mark (onward k) at ∷ []) leads_to_queue hand.is_key hand.trail.on in
              let single = sum_by-cons (λ y. one_if (on y)) (mark (onward k) at) [] in
              let there : one_if (on (mark (onward k) at)) ≡ 1 = ap one_if ghost.trail.on in
              is_true (on (mark k (dumped c o))) (omega (arith, kept, single, there))
            where
              is_true : (b : Bool) → 1 ≤ one_if b → b ≡ true
              is_true b one = grind arith

      number_below : (j : McCopy) → IsRight (mark j at) → j.packet < length packets
      number_below j r =
          let was = job.ledger.was_asked r.origin r.was_there in
          let parts = asked_parts nets packets r.origin.copy.packet was.0 was.1 in
          let low = slice_get_within packets r.origin.copy.packet parts.packet parts.is_packet in
          subst (λ i. i < length packets) r.same_packet low

      few_of : (i : ℕ) → count_by (λ (j : McCopy). j.packet == i) (onward k ∷ all_in) ≤ 1
      few_of i =
          let first = sum_by-cons (λ (j : McCopy). one_if (j.packet == i)) (onward k) all_in in
          elim (cases_Bool (k.packet == i)) [
            | inl same ↦
                let number : k.packet ≡ i = eqb-true k.packet i same in
                let some = counts (is_before (onward k) ghost) (mark k (dumped c o)) (marks_of n) still_there before_it in
                let its : count_by (λ (j : McCopy). j.packet == k.packet) all_in ≡ count_by (λ (j : McCopy). j.packet == i) all_in = ap (λ l. count_by (λ (j : McCopy). j.packet == l) all_in) number in
                let one : one_if (k.packet == i) ≡ 1 = ap one_if same in
                omega (arith, first, copies_once (onward k) ghost, some, its, one)
            | inr other ↦
                let zero_it : one_if (k.packet == i) ≡ 0 = ap one_if other in
                omega (arith, first, zero_it, of_queue)
          ]
        where
          of_queue : count_by (λ (j : McCopy). j.packet == i) all_in ≤ 1
          of_queue = elim (cases_lt 0 (count_by (λ (j : McCopy). j.packet == i) all_in)) [
            | inl some ↦
                let found = counted (λ (j : McCopy). j.packet == i) all_in (omega (arith, some)) in
                let number : found.0.packet ≡ i = eqb-true found.0.packet i found.2 in
                let its : count_by (λ (j : McCopy). j.packet == found.0.packet) all_in ≡ count_by (λ (j : McCopy). j.packet == i) all_in =
                ap (λ l. count_by (λ (j : McCopy). j.packet == l) all_in) number in
                omega (arith, copies_once found.0 (right_in found.0 found.1), its)
            | inr none ↦ omega (arith, none)
          ]

      -- fewer copies were in the queue than there are packets
      few_in : length all_in < length packets
      few_in =
          let few = count_covered (λ i (j : McCopy). j.packet == i) (range_with_len 0 (length packets)) (λ (j : McCopy). true) (onward k ∷ all_in)
          (λ j a all. (j.packet, number_in_range j.packet (length packets) (below j a), nat_eq_same j.packet)) (λ i a. few_of i) in
          omega (arith, few, count_all (λ (j : McCopy). true) (onward k ∷ all_in) (λ j a. refl), length-range_with_len 0 (length packets))
        where
          below : (j : McCopy) → Among j (onward k ∷ all_in) → j.packet < length packets
          below j (inl same) = subst (λ (e : McCopy). e.packet < length packets) (sym same) (number_below (onward k) ghost)
          below j (inr later) = number_below j (right_in j later)

      -- so the queue was never full, where it has room for them all
      never_full : length packets ≤ u.capacity → (e : ℕ × ℕ) → WasFullAt m f (behind u c o) e → ⊥
      never_full roomy e full =
          grind (arith, somewhere m f n nets labels mesh after passes right ledger c o live k still_there, few_in, length-append (held_in m (behind u c o)) (f.entered (behind u c o)))
        where
          room_of : (b : Queue) → b ≢ nowhere → capacity_of u b ≡ u.capacity
          room_of b there = grind arith

pub no_dump : (patience turns : ℕ) (m n : State) (f : Flow) (nets : List NetPlan) (packets : List Packet) → HasOneWay → 1 ≤ patience → IsMesh m → IsMesh n → IsRound patience turns m f n →
    AreRight m.setup.machine m.setup.tables nets → MeetsJobLedger m nets packets → length packets ≤ m.setup.capacity → f.dumped ≡ []
no_dump patience turns m n f nets packets one_way patient mesh after round right job roomy = by_list f.dumped refl
  where
    no_record : (d : DumpRec) → Among d f.dumped → ⊥
    no_record d a =
        let fits = All-contains (λ (r : DumpRec). IsLiveChip m.setup.machine r.chip × IsOutput r.out × (r.copy.hop < last_hop)) f.dumped d round.passes.at_outputs (among_contains d f.dumped a) in
        let here_it = dumped_here m f n nets packets mesh after round.passes right job one_way d.chip d.out fits.0 fits.1 d.copy a fits.2 in
        by_fulls (f.fulls (behind m.setup d.chip d.out)) (round.full (behind m.setup d.chip d.out))
        (some_fulls (dumped_at f d.chip d.out) d.copy here_it (length (f.fulls (behind m.setup d.chip d.out))) (round.patient d.chip d.out fits.0 fits.1))
        (never_full m f n nets packets mesh after round.passes right job one_way d.chip d.out fits.0 fits.1 d.copy a fits.2 roomy)
      where
        some_fulls : (ks : List McCopy) (k : McCopy) → Among k ks → (many : ℕ) → patience * length ks ≤ many → 1 ≤ many
        some_fulls [] k none many enough = absurd none
        some_fulls (j ∷ ks) k there many enough = grind (arith, mul-le-mul_left)

        by_fulls : (es : List (ℕ × ℕ)) → All (WasFullAt m f (behind m.setup d.chip d.out)) es → 1 ≤ length es → ((e : ℕ × ℕ) → WasFullAt m f (behind m.setup d.chip d.out) e → ⊥) → ⊥
        by_fulls [] all some never = absurd (omega (arith, some))
        by_fulls (e ∷ es) all some never = never e (All-head (WasFullAt m f (behind m.setup d.chip d.out)) e es all)

    by_list : (ds : List DumpRec) → f.dumped ≡ ds → f.dumped ≡ []
    by_list [] none = none
    by_list (d ∷ ds) some = absurd (no_record d (subst (λ rs. Among d rs) (sym some) (inl refl)))

-- Nor do rounds one after the other.
pub rounds_no_dump : (patience turns : ℕ) (m n : State) (nets : List NetPlan) (packets : List Packet) → HasOneWay → 1 ≤ patience → IsMesh m →
    AreRight m.setup.machine m.setup.tables nets → MeetsJobLedger m nets packets → length packets ≤ m.setup.capacity → HasRounds patience turns m n → n.dumped ≡ m.dumped
rounds_no_dump patience turns m n nets packets one_way patient mesh right job roomy no_rounds = refl
rounds_no_dump patience turns m n nets packets one_way patient mesh right job roomy (more f k n' before after round) =
    let was = rounds_stand patience turns m k nets packets mesh right job before in
    let no_record = no_dump patience turns k n' f nets packets one_way patient was.mesh after round
    (subst (λ (s : Setup). AreRight s.machine s.tables nets) (sym was.setup) right) was.job (subst (λ (s : Setup). length packets ≤ s.capacity) (sym was.setup) roomy) in
    round.passes.dumped
    ∙ (ap (λ ds. k.dumped ++ ds) no_record
    ∙ (append-nil k.dumped ∙ rounds_no_dump patience turns m k nets packets one_way patient mesh right job roomy before))
