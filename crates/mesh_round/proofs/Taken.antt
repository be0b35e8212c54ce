-- What all routers took, output by output: it crossed an output or was dumped there.
use Rattle.mesh_round.proofs.Common.{All-contains, Among, Bool, Chip, Dir, DumpRec, Flow, IsInside, IsLiveChip, IsMesh, IsOutput, List, Mark, McCopy, Out, Passes, Port, Queue, Setup, State, []}
use Rattle.mesh_round.proofs.Common.{all_once, all_outs, all_ports, among_at, among_contains, among_gathered, among_map, and_from, and_parts, answers_none, ap, ap₂, arith, at_port, behind, both_ways}
use Rattle.mesh_round.proofs.Common.{cases_Bool, chip_eq, chip_eq_same, chip_eq_true, chip_of, chip_of-index_of, chip_of-inside, cond, count_by, dumped_at, eqb-true, false, filter, gathered}
use Rattle.mesh_round.proofs.Common.{get_or_from_slice_get, held_in, in_hand, index_of, index_of-chip_of, inl, input, inr, is_live_chip, is_live_link, last_hop, leaves_by, live_ends, live_inside, map}
use Rattle.mesh_round.proofs.Common.{mark, nat_eq_same, out_eq, out_eq_true, outputs, port_below, port_eq, port_eq_same, port_eq_true, port_number, port_of, port_of-port_number, queue_at}
use Rattle.mesh_round.proofs.Common.{queue_at-below, range_with_len, refl, rules, subst, sum_by, sym, taken_for, true, ℕ, ◌%◌, ◌&&◌, ◌*◌, ◌++◌, ◌+◌, ◌/◌, ◌<◌, ◌==◌, ◌∙◌, ◌∷◌, ◌≡◌, ◌⊎◌}
use Rattle.mesh_round.proofs.Sums.{sum_agree, sum_none, sum_map, sum_filter, sum_swap, sum_plus, sum_gathered, sum_at-plain, one_passes, carried}
use Rattle.mesh_round.proofs.{Ends.one_port, Sources.once_in_range, Sources.range_parts, Sources.live_chips, Sources.live_of_live_chips, Sources.live_chip_once, Entered.numbered_port, Entered.has_bit}
use Rattle.mesh_round.proofs.{Weights.back, Weights.sum_outputs, Weights.taken_is, CountSums.one_if}

port_once : (port : Port) → count_by (port_eq port) all_ports ≡ 1
port_once port = grind arith

module _ (p : Mark → Bool) (m : State) (f : Flow) (n : State) (mesh : IsMesh m) (passes : Passes m f n) where
  abbrev u : Setup
  u = m.setup

  -- whether the mark of a copy in hand for an output passes, as a number
  abbrev pub weight : Chip → Out → McCopy → ℕ
  weight c o k = one_if (p (mark k (in_hand c o)))

  -- how many marks in hand pass of those that a copy makes
  abbrev pub in_hands : Chip → Port → McCopy → ℕ
  in_hands c port k = sum_by (λ o. weight c o k) (outputs u c port k)

  abbrev pub taken_at : Chip → Port → ℕ
  taken_at c port = sum_by (in_hands c port) (f.left (at_port u c port))

  -- of a queue, by its place
  abbrev pub taken_from : ℕ → ℕ
  taken_from i = sum_by (in_hands (chip_of u.machine (i / 7)) (port_of (i % 7))) (f.left (input i))

  -- ---- by outputs

  by_output : (c : Chip) → sum_by (taken_at c) all_ports ≡ sum_by (λ o. sum_by (weight c o) (taken_for u f c o)) all_outs
  by_output c =
      sum_agree (taken_at c) (λ port. sum_by (λ o. part port o) all_outs) all_ports (λ port a. one port)
      ∙ (sum_swap (λ port o. part port o) all_ports all_outs
      ∙ sum_agree (λ o. sum_by (λ port. part port o) all_ports) (λ o. sum_by (weight c o) (taken_for u f c o)) all_outs (λ o a. whole o))
    where
      part : Port → Out → ℕ
      part port o = sum_by (weight c o) (filter (leaves_by u c o port) (f.left (at_port u c port)))

      one : (port : Port) → taken_at c port ≡ sum_by (λ o. part port o) all_outs
      one port =
          let left = f.left (at_port u c port) in
          sum_agree (in_hands c port) (λ k. sum_by (λ o. cond (leaves_by u c o port k) (weight c o k) 0) all_outs) left
          (λ k a. sum_outputs u c port k (λ o. weight c o k))
          ∙ (sum_swap (λ k o. cond (leaves_by u c o port k) (weight c o k) 0) left all_outs
          ∙ sum_agree (λ o. sum_by (λ k. cond (leaves_by u c o port k) (weight c o k) 0) left) (λ o. part port o) all_outs
          (λ o a. sym (sum_filter (leaves_by u c o port) (weight c o) left)))

      whole : (o : Out) → sum_by (λ port. part port o) all_ports ≡ sum_by (weight c o) (taken_for u f c o)
      whole o = search (rules, sum_gathered, sum_at-plain)

  -- ---- by queues

  abbrev ports : List (Chip × Port)
  ports = gathered (λ i c. map (λ port. (c, port)) all_ports) 0 (live_chips u.machine)

  sum_ports : (g : Chip × Port → ℕ) → sum_by g ports ≡ sum_by (λ c. sum_by (λ port. g (c, port)) all_ports) (live_chips u.machine)
  sum_ports g =
      sum_gathered g (λ i c. map (λ port. (c, port)) all_ports) 0 (live_chips u.machine)
      ∙ (sum_at-plain (λ c. sum_by g (map (λ port. (c, port)) all_ports)) 0 (live_chips u.machine)
      ∙ sum_agree (λ c. sum_by g (map (λ port. (c, port)) all_ports)) (λ c. sum_by (λ port. g (c, port)) all_ports) (live_chips u.machine) (λ c a. sum_map (λ port. (c, port)) g all_ports))

  port_lives : (s : Chip × Port) → Among s ports → IsLiveChip u.machine s.0
  port_lives s a = grind (arith, live_chips u.machine, among_gathered, among_map, live_of_live_chips, among_at)

  abbrev numbers : ℕ → Chip × Port → Bool
  numbers i s = queue_at u.machine s.0 s.1 == i

  taken_same : (c : Chip) (port : Port) → IsInside u.machine c → taken_from (queue_at u.machine c port) ≡ taken_at c port
  taken_same c port inside =
      let small = port_below port in
      let index : (7 * index_of u.machine c + port_number port) / 7 ≡ index_of u.machine c = omega arith in
      let number : (7 * index_of u.machine c + port_number port) % 7 ≡ port_number port = omega arith in
      ap (λ i. sum_by (in_hands (chip_of u.machine i) (port_of ((7 * index_of u.machine c + port_number port) % 7))) (f.left (at_port u c port))) index
      ∙ (ap (λ (e : Chip). sum_by (in_hands e (port_of ((7 * index_of u.machine c + port_number port) % 7))) (f.left (at_port u c port))) (chip_of-index_of u.machine c inside)
      ∙ (ap (λ i. sum_by (in_hands c (port_of i)) (f.left (at_port u c port))) number
      ∙ ap (λ (q : Port). sum_by (in_hands c q) (f.left (at_port u c port))) (port_of-port_number port)))

  -- nothing leaves a queue of a dead chip
  none_left : (q : Queue) → held_in m q ≡ [] → f.entered q ≡ [] → f.left q ≡ []
  none_left q held none =
      let all : [] ≡ f.left q ++ held_in n q = sym (ap₂ (λ (a b : List McCopy). a ++ b) held none) ∙ passes.in_order q in
      empty (f.left q) (held_in n q) all
    where
      empty : (xs ys : List McCopy) → [] ≡ xs ++ ys → xs ≡ []
      empty [] ys same = refl
      empty (x ∷ xs) ys same = cc

  dead_link : (c : Chip) (d : Dir) → is_live_chip u.machine c ≡ false → is_live_link u.machine c d ≡ false
  dead_link c d dead = grind (arith, cases_Bool (is_live_link u.machine c d), answers_none, live_ends)

  dead_taken : (c : Chip) (port : Port) → IsInside u.machine c → is_live_chip u.machine c ≡ false → taken_at c port ≡ 0
  dead_taken c port inside dead = grind (arith, get_or_from_slice_get, none_left, dead_link)

  port_there : (c : Chip) (port : Port) → IsLiveChip u.machine c → count_by (numbers (queue_at u.machine c port)) ports ≡ 1
  port_there c port live =
      sum_agree (λ s. one_if (numbers (queue_at u.machine c port) s)) (λ s. one_if (chip_eq c s.0 && port_eq port s.1)) ports (λ s a. ap one_if (same s (port_lives s a)))
      ∙ (sum_ports (λ s. one_if (chip_eq c s.0 && port_eq port s.1))
      ∙ (sum_agree (λ e. sum_by (λ q. one_if (chip_eq c e && port_eq port q)) all_ports) (λ e. one_if (chip_eq c e)) (live_chips u.machine) (λ e a. each (chip_eq c e))
      ∙ live_chip_once u.machine c live))
    where
      each : (b : Bool) → sum_by (λ q. one_if (b && port_eq port q)) all_ports ≡ one_if b
      each b = grind (arith, port_once, sum_none, one_if)

      same : (s : Chip × Port) → IsLiveChip u.machine s.0 → (queue_at u.machine s.0 s.1 == queue_at u.machine c port) ≡ (chip_eq c s.0 && port_eq port s.1)
      same (e, q) lives =
          both_ways (queue_at u.machine e q == queue_at u.machine c port) (chip_eq c e && port_eq port q)
          (λ equal.
          let one = one_port u.machine e c q port (live_inside u.machine e lives) (live_inside u.machine c live) (eqb-true (queue_at u.machine e q) (queue_at u.machine c port) equal) in
          and_from (chip_eq c e) (port_eq port q) (ap (chip_eq c) one.0 ∙ chip_eq_same c) (ap (port_eq port) one.1 ∙ port_eq_same port))
          (λ both.
          let parts = and_parts (chip_eq c e) (port_eq port q) both in
          let queue : queue_at u.machine e q ≡ queue_at u.machine c port = ap₂ (queue_at u.machine) (sym (chip_eq_true c e parts.0)) (sym (port_eq_true port q parts.1)) in
          ap (λ i. i == queue_at u.machine c port) queue ∙ nat_eq_same (queue_at u.machine c port))

  one_of_queue : (i : ℕ) → i < 7 * (u.machine.width * u.machine.height) → (taken_from i ≡ 0) ⊎ (count_by (numbers i) ports ≡ 1)
  one_of_queue i below =
      let index : i / 7 < u.machine.width * u.machine.height = omega (arith, below) in
      let c : Chip = chip_of u.machine (i / 7) in
      let inside = chip_of-inside u.machine (i / 7) index in
      let port = numbered_port (i % 7) (omega arith) in
      let number : queue_at u.machine c port.0 ≡ i = omega (arith, index_of-chip_of u.machine (i / 7), port.1) in
      subst (λ j. (taken_from j ≡ 0) ⊎ (count_by (numbers j) ports ≡ 1)) number (by_chip c port.0 inside)
    where
      by_chip : (c : Chip) (port : Port) → IsInside u.machine c → (taken_from (queue_at u.machine c port) ≡ 0) ⊎ (count_by (numbers (queue_at u.machine c port)) ports ≡ 1)
      by_chip c port inside = elim (cases_Bool (is_live_chip u.machine c)) [
        | inl live ↦ inr (port_there c port live)
        | inr dead ↦ inl (taken_same c port inside ∙ dead_taken c port inside dead)
      ]

  all_taken : sum_by taken_from (range_with_len 0 (7 * (u.machine.width * u.machine.height))) ≡ sum_by (λ c. sum_by (taken_at c) all_ports) (live_chips u.machine)
  all_taken =
      carried numbers taken_from (λ s. taken_at s.0 s.1) (range_with_len 0 (7 * (u.machine.width * u.machine.height))) ports
      (λ i s a b is. ap taken_from (sym (eqb-true (queue_at u.machine s.0 s.1) i is)) ∙ taken_same s.0 s.1 (live_inside u.machine s.0 (port_lives s b)))
      (λ i a. one_of_queue i (omega (arith, (range_parts 0 (7 * (u.machine.width * u.machine.height)) i a).1)))
      (λ s b. inr (once_in_range (queue_at u.machine s.0 s.1) 0 (7 * (u.machine.width * u.machine.height)) (omega arith)
      (omega (arith, queue_at-below u.machine s.0 s.1 (live_inside u.machine s.0 (port_lives s b))))))
      ∙ sum_ports (λ s. taken_at s.0 s.1)

  -- ---- what was dumped, by outputs

  of_record : (r : DumpRec) → IsLiveChip u.machine r.chip → IsOutput r.out →
      sum_by (λ c. sum_by (λ o. cond (chip_eq r.chip c && out_eq r.out o) (weight c o r.copy) 0) all_outs) (live_chips u.machine) ≡ weight r.chip r.out r.copy
  of_record r live is =
      sum_agree (λ c. sum_by (λ o. cond (chip_eq r.chip c && out_eq r.out o) (weight c o r.copy) 0) all_outs) (λ c. cond (chip_eq r.chip c) w 0) (live_chips u.machine) (λ c a. at_chip c)
      ∙ one_passes (chip_eq r.chip) w (live_chips u.machine) (live_chip_once u.machine r.chip live)
    where
      w : ℕ
      w = weight r.chip r.out r.copy

      at_out : (c : Chip) (o : Out) → chip_eq r.chip c ≡ true → cond (out_eq r.out o) (weight c o r.copy) 0 ≡ cond (out_eq r.out o) w 0
      at_out c o here = grind (arith, cases_Bool (out_eq r.out o), chip_eq_true r.chip c here, out_eq_true)

      at_chip : (c : Chip) → sum_by (λ o. cond (chip_eq r.chip c && out_eq r.out o) (weight c o r.copy) 0) all_outs ≡ cond (chip_eq r.chip c) w 0
      at_chip c = grind (arith, cases_Bool (chip_eq r.chip c), one_passes (out_eq r.out) w all_outs (all_once r.out is), all_once r.out is, sum_agree, sum_none, at_out)

  all_dumped : sum_by (λ c. sum_by (λ o. sum_by (weight c o) (dumped_at f c o)) all_outs) (live_chips u.machine) ≡ sum_by (λ (r : DumpRec). weight r.chip r.out r.copy) f.dumped
  all_dumped =
      sum_agree (λ c. sum_by (λ o. sum_by (weight c o) (dumped_at f c o)) all_outs) (λ c. sum_by (λ r. sum_by (λ o. share r c o) all_outs) f.dumped) (live_chips u.machine) (λ c a. by_records c)
      ∙ (sum_swap (λ c r. sum_by (λ o. share r c o) all_outs) (live_chips u.machine) f.dumped
      ∙ sum_agree (λ r. sum_by (λ c. sum_by (λ o. share r c o) all_outs) (live_chips u.machine)) (λ (r : DumpRec). weight r.chip r.out r.copy) f.dumped
      (λ r a. let fits = All-contains (λ (s : DumpRec). IsLiveChip u.machine s.chip × IsOutput s.out × (s.copy.hop < last_hop)) f.dumped r passes.at_outputs (among_contains r f.dumped a) in
      of_record r fits.0 fits.1))
    where
      share : DumpRec → Chip → Out → ℕ
      share r c o = cond (chip_eq r.chip c && out_eq r.out o) (weight c o r.copy) 0

      by_records : (c : Chip) → sum_by (λ o. sum_by (weight c o) (dumped_at f c o)) all_outs ≡ sum_by (λ r. sum_by (λ o. share r c o) all_outs) f.dumped
      by_records c =
          sum_agree (λ o. sum_by (weight c o) (dumped_at f c o)) (λ o. sum_by (λ r. share r c o) f.dumped) all_outs
          (λ o a. sum_map (λ (r : DumpRec). r.copy) (weight c o) (filter (λ (r : DumpRec). chip_eq r.chip c && out_eq r.out o) f.dumped)
          ∙ sum_filter (λ (r : DumpRec). chip_eq r.chip c && out_eq r.out o) (λ (r : DumpRec). weight c o r.copy) f.dumped)
          ∙ sum_swap (λ o r. share r c o) all_outs f.dumped

  -- how many of the marks that left hands across outputs pass
  abbrev pub crossing : ℕ
  crossing = sum_by (λ c. sum_by (λ o. sum_by (weight c o) (map back (f.entered (behind u c o)))) all_outs) (live_chips u.machine)

  -- What came into hands left them, across outputs or to be dumped.
  pub hands_balance : sum_by taken_from (range_with_len 0 (7 * (u.machine.width * u.machine.height))) ≡ crossing + sum_by (λ (r : DumpRec). weight r.chip r.out r.copy) f.dumped
  hands_balance =
      all_taken
      ∙ (sum_agree (λ c. sum_by (taken_at c) all_ports) (λ c. across c + dropped c) (live_chips u.machine) (λ c a. at_chip c (live_of_live_chips u.machine c a))
      ∙ (sum_plus across dropped (live_chips u.machine) ∙ ap (λ k. crossing + k) all_dumped))
    where
      across : Chip → ℕ
      across c = sum_by (λ o. sum_by (weight c o) (map back (f.entered (behind u c o)))) all_outs

      dropped : Chip → ℕ
      dropped c = sum_by (λ o. sum_by (weight c o) (dumped_at f c o)) all_outs

      at_chip : (c : Chip) → IsLiveChip u.machine c → sum_by (taken_at c) all_ports ≡ across c + dropped c
      at_chip c live =
          by_output c
          ∙ (sum_agree (λ o. sum_by (weight c o) (taken_for u f c o)) (λ o. sum_by (weight c o) (map back (f.entered (behind u c o))) + sum_by (weight c o) (dumped_at f c o)) all_outs
          (λ o a. taken_is m f n passes c o live (has_bit o a) (weight c o))
          ∙ sum_plus (λ o. sum_by (weight c o) (map back (f.entered (behind u c o)))) (λ o. sum_by (weight c o) (dumped_at f c o)) all_outs)
