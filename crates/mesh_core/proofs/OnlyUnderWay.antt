-- Which packets are under way: no event brings one that was not, and the packets of a job have the numbers below their number.
use Rattle.mesh_core.proofs.Common.{Among, Contains, Contains-get_or, Event, IsMesh, List, Mark, MeetsJobLedger, NetPlan, OnlyUnderWay, Packet, PutIn, State, TakenOut, after_event, among_contains}
use Rattle.mesh_core.proofs.Common.{among_either, among_left, among_map, among_only, among_right, among_taken_out, arith, contains_among, get_or-range_with_len, inl, inr, length}
use Rattle.mesh_core.proofs.Common.{length-range_with_len, marks_of, range_with_len, subst, sym, ℕ, ◌++◌, ◌+◌, ◌∙◌, ◌∷◌, ◌≡◌, ◌⊎◌}
use Rattle.mesh_core.proofs.{Moves.alone_or_taken, Moves.mark, Moves.IsMove, Enabled.after_answer, Events.event_exchange, Events.MovesOn, FewMarks.number_below}

-- what comes is of the packet that leaves
same_packet : (s : State) (x : Mark) (come : List Mark) → IsMove s x come → (y : Mark) → Among y come → y.copy.packet ≡ x.copy.packet
same_packet s x come move y came = grind (arith, alone_or_taken s x.copy x.station come move, among_only, among_map, mark, Among)

-- what is there after an exchange came, or was there
came_or_was : {X : Type 0} (x : X) (come before rest after : List X) → TakenOut x before rest → PutIn come rest after → (y : X) → Among y after → Among y come ⊎ Among y before
came_or_was x come before rest after out put y a = elim (among_either y put.front (come ++ put.back) (subst (λ l. Among y l) put.after_is a)) [
  | inl first ↦ inr (was (among_left y put.front put.back first))
  | inr later ↦ elim (among_either y come put.back later) [ inl new ↦ inl new | inr last ↦ inr (was (among_right y put.front put.back last)) ]
]
  where
    was : Among y (put.front ++ put.back) → Among y before
    was b =
        let there : Among y (out.front ++ x ∷ out.back) = elim (among_either y out.front out.back (subst (λ l. Among y l) (sym put.before_is ∙ out.after_is) b)) [
          | inl first ↦ among_left y out.front (x ∷ out.back) first
          | inr later ↦ among_right y out.front (x ∷ out.back) (inr later)
        ] in
        subst (λ l. Among y l) (sym out.before_is) there

-- Where only these packets are under way, only these are after an event.
pub only_after : (numbers : List ℕ) (s : State) → IsMesh s → OnlyUnderWay numbers s → (e : Event) → OnlyUnderWay numbers (after_event s e)
only_after numbers s mesh only e = after_answer _ _ only _ (λ t is. by_move t (event_exchange s mesh e t is))
  where
    by_move : (t : State) → MovesOn s t → OnlyUnderWay numbers t
    by_move t m k has waits = elim (came_or_was m.0.leaves m.0.come (marks_of s) m.0.rest (marks_of t) m.0.out m.0.put k (contains_among k (marks_of t) has)) [
      | inl came ↦
          subst (λ n. Contains numbers n) (sym (same_packet s m.0.leaves m.0.come m.0.move k came))
          (only m.0.leaves (among_contains m.0.leaves (marks_of s) (among_taken_out m.0.leaves (marks_of s) m.0.rest m.0.out)) m.1)
      | inr was ↦ only k (among_contains k (marks_of s) was) waits
    ]

-- The packets of a job have the numbers below their number.
pub of_job : (s : State) (nets : List NetPlan) (packets : List Packet) → MeetsJobLedger s nets packets → OnlyUnderWay (range_with_len 0 (length packets)) s
of_job s nets packets job k has waits =
    let n : ℕ = k.copy.packet in
    let below = number_below s nets packets job k has in
    let long = length-range_with_len 0 (length packets) in
    let here : 0 + n ≡ n = omega arith in
    subst (λ i. Contains (range_with_len 0 (length packets)) i) (get_or-range_with_len 0 (length packets) n 0 below ∙ here)
    (Contains-get_or (range_with_len 0 (length packets)) n 0 (omega (arith, below, long)))
