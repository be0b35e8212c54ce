-- Each copy that was in a queue in a round stood right there: on a trail of its net, with the key and payload of its packet. So would one that was dumped.
use Rattle.mesh_round.proofs.Common.{Among, AreRight, Bag, Bool, Chip, Crosses, Flow, IsLiveChip, IsMesh, IsOutput, IsRight, Label, List, Mark, McCopy, MeetsLedger, NetPlan, Out, Passes, Queue, Setup}
use Rattle.mesh_round.proofs.Common.{Stands, State, Station, [], among_either, ap, arith, at_core, behind, cases_lt, chip_of, core, count_by, dumped, gathered, get_or, get_or_from_slice_get}
use Rattle.mesh_round.proofs.Common.{get_or_past, held_in, in_queue, inl, input, input_marks, inr, length, map_among, mark, mark_eq, mark_eq_same, marks_at, marks_of, nowhere, onward, port_of, refl}
use Rattle.mesh_round.proofs.Common.{right_come, slice_get_there, stands, sum_by, sym, ℕ, ◌%◌, ◌++◌, ◌+◌, ◌/◌, ◌∙◌, ◌∷◌, ◌≡◌, ◌≢◌, ◌≤◌}
use Rattle.mesh_round.proofs.{CountSums.counts, CountSums.one_if, CountSums.part_of_sum_at, Ends.branch_leads_on, Entered.crosses_behind, Entered.station_of, Past.now_right, Past.occurs_right}
use Rattle.mesh_round.proofs.{RoundBag.bag_of_round, RoundBag.crossing_comes, RoundBag.in_parts, Sums.sum_gathered}

-- marks of the list at a place are among those of all lists
one_of_lists : (p : Mark → Bool) (at : ℕ → Station) (lists : List (List McCopy)) (i : ℕ) →
    count_by p (marks_at (at i) (get_or lists i [])) ≤ count_by p (gathered (λ l copies. marks_at (at l) copies) 0 lists)
one_of_lists p at lists i = elim (cases_lt i (length lists)) [
  | inl below ↦
      let q = slice_get_there lists i below in
      let list : get_or lists i [] ≡ q.0 = get_or_from_slice_get lists i q.0 [] q.1 in
      let all = sum_gathered (λ x. one_if (p x)) (λ l copies. marks_at (at l) copies) 0 lists in
      let part = part_of_sum_at (λ l copies. sum_by (λ x. one_if (p x)) (marks_at (at l) copies)) 0 lists i q.0 q.1 in
      let place : 0 + i ≡ i = omega arith in
      let here_it : sum_by (λ x. one_if (p x)) (marks_at (at (0 + i)) q.0) ≡ count_by p (marks_at (at i) (get_or lists i [])) =
      ap (λ l. sum_by (λ x. one_if (p x)) (marks_at (at l) q.0)) place ∙ ap (λ copies. count_by p (marks_at (at i) copies)) (sym list) in
      omega (arith, all, part, here_it)
  | inr past ↦
      let none : count_by p (marks_at (at i) (get_or lists i [])) ≡ 0 = ap (λ copies. count_by p (marks_at (at i) copies)) (get_or_past lists i [] past) in
      omega (arith, none)
]

module _ (m : State) (f : Flow) (n : State) (nets : List NetPlan) (labels : ℕ → Label) (mesh : IsMesh m) (after : IsMesh n) (passes : Passes m f n)
    (right : AreRight m.setup.machine m.setup.tables nets) (ledger : MeetsLedger m nets labels) where
  abbrev u : Setup
  u = m.setup

  abbrev bag : Bag m n
  bag = bag_of_round m f n mesh after passes

  -- what the ledger asks of one mark
  abbrev pub Right : Mark → Type 0
  Right k = IsRight m n nets labels mesh right ledger k

  -- marks of a queue are among all marks
  pub queue_counts : (p : Mark → Bool) (q : Queue) → count_by p (marks_at (station_of u q) (held_in m q)) ≤ count_by p (marks_of m)
  queue_counts p (input i) =
      let part : count_by p (marks_at (station_of u (input i)) (held_in m (input i))) ≤ count_by p (input_marks m) =
      one_of_lists p (λ l. in_queue (chip_of u.machine (l / 7)) (port_of (l % 7))) m.inputs i in
      omega (arith, part, in_parts m f n mesh after passes p m)
  queue_counts p (core v) = grind (arith, one_of_lists p at_core m.cores v, in_parts m f n mesh after passes p m)
  queue_counts p nowhere = omega arith

  module _ (c : Chip) (o : Out) (live : IsLiveChip u.machine c) where
    abbrev at : Station
    at = station_of u (behind u c o)

    counts_there : (j : McCopy) (ks : List McCopy) → Among j ks → 1 ≤ count_by (mark_eq (mark j at)) (marks_at at ks)
    counts_there j ks a = counts (mark_eq (mark j at)) (mark j at) (marks_at at ks) (map_among (λ d. mark d at) j ks a) (mark_eq_same (mark j at))

    -- what was in the queue behind an output at some time of the round
    pub queue_right : IsOutput o → (j : McCopy) → Among j (held_in m (behind u c o) ++ f.entered (behind u c o)) → Right (mark j (station_of u (behind u c o)))
    queue_right is j a =
        occurs_right m n nets labels mesh right ledger bag (mark j at) (elim (among_either j (held_in m (behind u c o)) (f.entered (behind u c o)) a) [
          | inl held ↦ omega (arith, counts_there j (held_in m (behind u c o)) held, queue_counts (mark_eq (mark j at)) (behind u c o))
          | inr came ↦ omega (arith, counts_there j (f.entered (behind u c o)) came, crossing_comes m f n mesh after passes (mark_eq (mark j at)) c o live is)
        ])

    -- ---- a dump record

    module _ (k : McCopy) (a : Among (mark k (dumped c o)) (marks_of n)) where
      -- it stands right, its output leads somewhere, and its copy would stand right in the queue there
      pub dumped_right : Right (mark k (dumped c o))
      dumped_right = now_right m n nets labels mesh right ledger bag (mark k (dumped c o)) a

      pub somewhere : behind u c o ≢ nowhere
      somewhere =
          let r = dumped_right in
          let st : Stands m r.net = stands m n nets labels mesh right ledger r.net r.in_nets in
          branch_leads_on u r.net r.trail.target r.trail.branch k.hop c o st.tree.edges_live st.targets r.trail.way.is_target r.trail.way.is_branch r.trail.on

      pub crosses : Crosses m k c o (mark (onward k) (station_of u (behind u c o)) ∷ [])
      crosses = crosses_behind m k c o live somewhere

      pub onward_right : Right (mark (onward k) (station_of u (behind u c o)))
      onward_right =
          right_come m n nets labels mesh right ledger (mark k (dumped c o)) dumped_right (mark (onward k) (station_of u (behind u c o)) ∷ []) crosses
          (mark (onward k) (station_of u (behind u c o))) (inl refl)
