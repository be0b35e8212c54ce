-- What entered all queues, counted as marks, is what came from all sources: each queue has one, or nothing entered it.
use Rattle.mesh_round.proofs.Common.{All-at, AllPairs-apart, Among, Bool, ByLink, Chip, Crosses, Description, Dir, Flow, IsInside, IsLiveChip, IsLiveLink, IsMesh, IsOutput, IsSite, Link, List, Local}
use Rattle.mesh_round.proofs.Common.{Mark, McCopy, None, Option, Out, Passes, Port, Queue, Setup, Some, Spot, State, Station, [], all_outs, among_at, among_contains, among_either, among_gathered}
use Rattle.mesh_round.proofs.Common.{among_map, and_from, and_parts, answers_none, ap, ap₂, arith, at_core, at_port, behind, both_ways, cases_Bool, chip_eq, chip_eq_same, chip_eq_true, chip_of}
use Rattle.mesh_round.proofs.Common.{chip_of-inside, cond, core, count_by, end_is_no_live_link, far_back, far_inside, far_of, in_queue, index_of-chip_of, inl, input, input_is_no_core}
use Rattle.mesh_round.proofs.Common.{input_is_somewhere, inr, is_live_chip, is_live_link, leads_to, length, link_is_not_local, live_back, live_ends, live_inside, map, mark, marks_at, nowhere, onward}
use Rattle.mesh_round.proofs.Common.{opposite_of, opposite_of-opposite, out_of, out_of-has_bit, port_number, port_number-port_of, port_of, queue_at, queue_at-below, range_with_len, refl, same_input}
use Rattle.mesh_round.proofs.Common.{same_site, site_parts, slice_get, slice_get_there, slice_get_within, stands, station_of_queue, subst, sum_by, sum_by-append, sym, true, vertex_behind_stands}
use Rattle.mesh_round.proofs.Common.{vertex_behind_there, zero-add, ℕ, ◌%◌, ◌*◌, ◌++◌, ◌/◌, ◌<◌, ◌∙◌, ◌∷◌, ◌≡◌, ◌≢◌, ◌⊎◌}
use Rattle.mesh_round.proofs.Sums.{sum_agree, sum_none, sum_map, carried}
use Rattle.mesh_round.proofs.Ends.{behind_eq, behind_eq_same, behind_eq_true, Leads, by_link, to_vertex, to_none, leads, one_port, one_link, one_end}
pub use Rattle.mesh_run.proofs.OutputBits.{has_bit}
use Rattle.mesh_round.proofs.Sources.{once_in_range, range_parts, live_of_live_chips, live_chips, choices, choice_eq, choice_eq_same, choice_eq_true, IsChoice, sources, source_eq, source_once}
use Rattle.mesh_round.proofs.CountSums.{one_if}

-- the queue into which a source's copies go
abbrev pub from : Setup → Chip × Option Out → Queue
from u (c, None) = at_port u c Local
from u (c, Some o) = behind u c o

-- all queues of a mesh
abbrev pub queues : Setup → List Queue
queues u = map input (range_with_len 0 (7 * (u.machine.width * u.machine.height))) ++ map core (range_with_len 0 (length u.spots))

-- the station of the copies in a queue
abbrev pub station_of : Setup → Queue → Station
station_of u (input i) = in_queue (chip_of u.machine (i / 7)) (port_of (i % 7))
station_of u (core v) = at_core v
station_of u nowhere = at_core 0

-- the copies in the input queue of a port stand there
pub station_is : (u : Setup) (c : Chip) (port : Port) → IsInside u.machine c → station_of u (at_port u c port) ≡ in_queue c port
station_is u c port inside = grind (arith, zero-add (queue_at u.machine c port), station_of_queue u.machine c port inside)

-- a copy in hand goes on to the queue behind the output, where there is one
pub crosses_behind : (m : State) (k : McCopy) (c : Chip) (o : Out) → IsLiveChip m.setup.machine c → behind m.setup c o ≢ nowhere →
    Crosses m k c o (mark (onward k) (station_of m.setup (behind m.setup c o)) ∷ [])
crosses_behind m k c o live some = by_end (leads m.setup c o)
  where
    by_end : Leads m.setup c o → Crosses m k c o (mark (onward k) (station_of m.setup (behind m.setup c o)) ∷ [])
    by_end (by_link d e out link far at) =
        let inside = far_inside m.setup.machine c e d (live_inside m.setup.machine c live) far in
        inl (d, e, out, link, far, ap (λ st. mark (onward k) st ∷ []) (ap (station_of m.setup) at ∙ station_is m.setup e (ByLink (opposite_of d)) inside))
    by_end (to_vertex v dead at is_core) = inr (v, dead, at, ap (λ q. mark (onward k) (station_of m.setup q) ∷ []) is_core)
    by_end (to_none without none) = absurd (some none)

-- ---- each queue stands once among the queues

pub input_once : (u : Setup) (i : ℕ) → i < 7 * (u.machine.width * u.machine.height) → count_by (behind_eq (input i)) (queues u) ≡ 1
input_once u i below = grind (arith, once_in_range i 0 (7 * (u.machine.width * u.machine.height)) (omega arith) (omega (arith, below)), sum_by-append, behind_eq, sum_map, sum_none)

pub core_once : (u : Setup) (v : ℕ) → v < length u.spots → count_by (behind_eq (core v)) (queues u) ≡ 1
core_once u v below = grind (arith, once_in_range v 0 (length u.spots) (omega arith) (omega (arith, below)), sum_by-append, behind_eq, sum_map, sum_none)

-- ---- a source that a queue alone has

-- the parts of a source
pub source_parts : (m : Description) (s : Chip × Option Out) → Among s (sources m) → IsLiveChip m s.0 × IsChoice s.1
source_parts m s a = grind (arith, among_gathered, choices, live_chips, among_map, live_of_live_chips, among_at, IsChoice, Among, has_bit)

source_eq_same : (s : Chip × Option Out) → source_eq s s ≡ true
source_eq_same s = and_from (chip_eq s.0 s.0) (choice_eq s.1 s.1) (chip_eq_same s.0) (choice_eq_same s.1)

source_eq_true : (s t : Chip × Option Out) → source_eq s t ≡ true → s ≡ t
source_eq_true (a, x) (b, y) same = grind (arith, and_parts, choice_eq, chip_eq_true, choice_eq_true)

-- the port of a number below 7
pub numbered_port : (k : ℕ) → k < 7 → (port : Port) × (port_number port ≡ k)
numbered_port k below = (port_of k, port_number-port_of k below)

-- ---- what entered

module _ (p : Mark → Bool) (m : State) (f : Flow) (n : State) (mesh : IsMesh m) (passes : Passes m f n) where
  abbrev u : Setup
  u = m.setup

  -- how many marks of what entered a queue pass
  abbrev pub came : Queue → ℕ
  came q = count_by p (marks_at (station_of u q) (f.entered q))

  nothing_came : (q : Queue) → f.entered q ≡ [] → came q ≡ 0
  nothing_came q none = ap (λ copies. count_by p (marks_at (station_of u q) copies)) none

  abbrev feeds : Chip × Option Out → Queue → Bool
  feeds s q = behind_eq (from u s) q

  at_once : (c : Chip) (port : Port) → IsInside u.machine c → count_by (behind_eq (at_port u c port)) (queues u) ≡ 1
  at_once c port inside = input_once u (queue_at u.machine c port) (queue_at-below u.machine c port inside)

  -- a source's copies go into one queue, or nothing came from it
  into_one : (s : Chip × Option Out) → IsLiveChip u.machine s.0 → (came (from u s) ≡ 0) ⊎ (count_by (feeds s) (queues u) ≡ 1)
  into_one (c, None) live = inr (at_once c Local (live_inside u.machine c live))
  into_one (c, Some o) live = elim (leads u c o) [
    | by_link d e out link far is ↦
        let inside = far_inside u.machine c e d (live_inside u.machine c live) far in
        inr (subst (λ (q : Queue). count_by (behind_eq q) (queues u) ≡ 1) (sym is) (at_once e (ByLink (opposite_of d)) inside))
    | to_vertex v dead at is ↦
        let stands = vertex_behind_stands u.spots c o v at in
        let below : v < length u.spots = slice_get_within u.spots v stands.0 stands.1 in
        inr (subst (λ (q : Queue). count_by (behind_eq q) (queues u) ≡ 1) (sym is) (core_once u v below))
    | to_none without is ↦ inl (subst (λ (q : Queue). came q ≡ 0) (sym is) (nothing_came nowhere passes.nowhere_empty))
  ]

  -- where a queue gets the copies of just one source
  only_source : (c : Chip) (x : Option Out) (q : Queue) → IsLiveChip u.machine c → IsChoice x → from u (c, x) ≡ q →
      ((s : Chip × Option Out) → IsLiveChip u.machine s.0 → from u s ≡ q → s ≡ (c, x)) → count_by (λ s. feeds s q) (sources u.machine) ≡ 1
  only_source c x q live is into only =
      sum_agree (λ s. one_if (feeds s q)) (λ s. one_if (source_eq (c, x) s)) (sources u.machine) (λ s a. ap one_if (same s a))
      ∙ source_once u.machine c x live is
    where
      same : (s : Chip × Option Out) → Among s (sources u.machine) → feeds s q ≡ source_eq (c, x) s
      same s a =
          both_ways (feeds s q) (source_eq (c, x) s)
          (λ feeding. subst (λ t. source_eq (c, x) t ≡ true) (sym (only s (source_parts u.machine s a).0 (behind_eq_true (from u s) q feeding))) (source_eq_same (c, x)))
          (λ equal. subst (λ t. feeds t q ≡ true) (source_eq_true (c, x) s equal) (subst (λ r. behind_eq (from u (c, x)) r ≡ true) into (behind_eq_same (from u (c, x)))))

  -- an injection queue gets the copies of its chip's cores
  only_local : (c : Chip) → IsInside u.machine c → (s : Chip × Option Out) → IsLiveChip u.machine s.0 → from u s ≡ at_port u c Local → s ≡ (c, None)
  only_local c inside (e, None) live is =
      let one = one_port u.machine e c Local Local (live_inside u.machine e live) inside (same_input _ _ is) in
      ap (λ (x : Chip). (x, None)) one.0
  only_local c inside (e, Some o) live is =
      grind (arith, leads u e o, live_inside u.machine e live, by_link, far_inside, one_port, link_is_not_local, to_vertex, input_is_no_core, to_none, input_is_somewhere, same_input)

  -- the queue of a port whose link is live gets the copies that the chip at the far end sends by that link
  only_far : (c e : Chip) (g : Dir) → IsInside u.machine c → IsInside u.machine e → far_of u.machine e (opposite_of g) ≡ Some c →
      (s : Chip × Option Out) → IsLiveChip u.machine s.0 → from u s ≡ at_port u c (ByLink g) → s ≡ (e, Some (Link (opposite_of g)))
  only_far c e g inside in_e far s live is = grind (arith, live_inside, one_port, same_input, link_is_not_local, opposite_of-opposite, one_link)

  pub behind_far : (c e : Chip) (g : Dir) → IsLiveLink u.machine e (opposite_of g) → far_of u.machine e (opposite_of g) ≡ Some c → behind u e (Link (opposite_of g)) ≡ at_port u c (ByLink g)
  behind_far c e g live far = grind (arith, opposite_of-opposite g)

  at_one_port : (c : Chip) (port : Port) → IsInside u.machine c →
      (came (at_port u c port) ≡ 0) ⊎ (count_by (λ s. feeds s (at_port u c port)) (sources u.machine) ≡ 1)
  at_one_port c Local inside = elim (cases_Bool (is_live_chip u.machine c)) [
    | inl live ↦ inr (only_source c None (at_port u c Local) live tt refl (only_local c inside))
    | inr dead ↦ inl (nothing_came (at_port u c Local) (passes.dead_chips c inside dead))
  ]
  at_one_port c (ByLink g) inside = elim (cases_Bool (is_live_link u.machine c g)) [
    | inl live ↦
        let ends = live_ends u.machine c g live in
        let e : Chip = ends.0 in
        let back : far_of u.machine e (opposite_of g) ≡ Some c = far_back u.machine c e g inside ends.1 in
        inr (only_source e (Some (Link (opposite_of g))) (at_port u c (ByLink g)) ends.3 tt (behind_far c e g (live_back u.machine c e g ends.1 live) back)
        (only_far c e g inside (live_inside u.machine e ends.3) back))
    | inr dead ↦ inl (nothing_came (at_port u c (ByLink g)) (passes.dead_ports c g inside dead))
  ]

  -- the queue of a vertex gets the copies that its chip sends by the output to its spot
  at_one_vertex : (v : ℕ) (t : Spot) → slice_get u.spots v ≡ Some t → count_by (λ s. feeds s (core v)) (sources u.machine) ≡ 1
  at_one_vertex v t at = only_source t.chip (Some (out_of t.core)) (core v) parts.0 (out_of-has_bit t.core) into only
    where
      site : IsSite u.machine t
      site = All-at (IsSite u.machine) u.spots v t mesh.sites at

      parts : IsLiveChip u.machine t.chip × (t.core < 24)
      parts = site_parts u.machine t site

      same_vertex : (w : ℕ) (s : Spot) → slice_get u.spots w ≡ Some s → s.chip ≡ t.chip → out_of s.core ≡ out_of t.core → w ≡ v
      same_vertex w s at' chips outs =
          let one : s ≡ t = same_site u.machine s t (All-at (IsSite u.machine) u.spots w s mesh.sites at') site chips outs in
          AllPairs-apart u.spots t mesh.different w v (at' ∙ ap Some one) at

      into : behind u t.chip (out_of t.core) ≡ core v
      into = elim (leads u t.chip (out_of t.core)) [
        | by_link d e out link far is ↦
            absurd (answers_none (is_live_link u.machine t.chip d) link (end_is_no_live_link u.machine t d site out))
        | to_vertex w dead there is ↦
            let stands = vertex_behind_stands u.spots t.chip (out_of t.core) w there in
            is ∙ ap core (same_vertex w stands.0 stands.1 stands.2 stands.3)
        | to_none without is ↦
            let there = vertex_behind_there u.spots t.chip (out_of t.core) t (among_contains t u.spots (among_at u.spots v t at)) (leads_to t.chip (out_of t.core) t refl refl) in
            absurd (no_vertex there.0 (sym without ∙ there.1))
      ]
        where
          no_vertex : (w : ℕ) → None ≡ Some w → ⊥
          no_vertex w same = cc

      only : (s : Chip × Option Out) → IsLiveChip u.machine s.0 → from u s ≡ core v → s ≡ (t.chip, Some (out_of t.core))
      only (c, None) live is = absurd (input_is_no_core is)
      only (c, Some o) live is = grind (arith, one_end u c o v is)

  from_one : (q : Queue) → Among q (queues u) → (came q ≡ 0) ⊎ (count_by (λ s. feeds s q) (sources u.machine) ≡ 1)
  from_one q a = elim (among_either q (map input (range_with_len 0 (7 * (u.machine.width * u.machine.height)))) (map core (range_with_len 0 (length u.spots))) a) [
    | inl there ↦
        let of = among_map input q (range_with_len 0 (7 * (u.machine.width * u.machine.height))) there in
        let below = (range_parts 0 (7 * (u.machine.width * u.machine.height)) of.0 of.1).1 in
        subst (λ (r : Queue). (came r ≡ 0) ⊎ (count_by (λ s. feeds s r) (sources u.machine) ≡ 1)) (sym of.2) (of_input of.0 (omega (arith, below)))
    | inr there ↦
        let of = among_map core q (range_with_len 0 (length u.spots)) there in
        let below : of.0 < length u.spots = omega (arith, (range_parts 0 (length u.spots) of.0 of.1).1) in
        let spot = slice_get_there u.spots of.0 below in
        subst (λ (r : Queue). (came r ≡ 0) ⊎ (count_by (λ s. feeds s r) (sources u.machine) ≡ 1)) (sym of.2) (inr (at_one_vertex of.0 spot.0 spot.1))
  ]
    where
      of_input : (i : ℕ) → i < 7 * (u.machine.width * u.machine.height) → (came (input i) ≡ 0) ⊎ (count_by (λ s. feeds s (input i)) (sources u.machine) ≡ 1)
      of_input i below =
          let index : i / 7 < u.machine.width * u.machine.height = omega (arith, below) in
          let c : Chip = chip_of u.machine (i / 7) in
          let inside = chip_of-inside u.machine (i / 7) index in
          let port = numbered_port (i % 7) (omega arith) in
          let number : queue_at u.machine c port.0 ≡ i = omega (arith, index_of-chip_of u.machine (i / 7), port.1) in
          subst (λ (j : ℕ). (came (input j) ≡ 0) ⊎ (count_by (λ s. feeds s (input j)) (sources u.machine) ≡ 1)) number (at_one_port c port.0 inside)

  -- What came from all sources is what came into all queues.
  pub all_came : sum_by (λ s. came (from u s)) (sources u.machine) ≡ sum_by came (queues u)
  all_came =
      carried feeds (λ s. came (from u s)) came (sources u.machine) (queues u)
      (λ s q a b is. ap came (behind_eq_true (from u s) q is))
      (λ s a. into_one s (source_parts u.machine s a).0)
      from_one
