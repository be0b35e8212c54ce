-- What a router took, by output: each copy that lookup gives an output crosses it or is dumped there.
use Rattle.mesh_round.proofs.Common.{All, All-contains, All-each, All-permutation, Among, Chip, Contains-filter, Flow, IsLiveChip, IsOutput, List, McCopy, Out, Passes, Port, Setup, State, all_outs}
use Rattle.mesh_round.proofs.Common.{all_ports, among_any, among_contains, among_filter, among_gathered, among_left, among_map, answers_none, any_among, ap, arith, at_port, behind, cond}
use Rattle.mesh_round.proofs.Common.{contains_among, dumped_at, filter, has, last_hop, leaves_by, list_any, map, onward, out_eq, out_eq_same, out_eq_true, outputs, subst, sum_by, sum_by-IsPermutation}
use Rattle.mesh_round.proofs.Common.{sum_by-append, sym, taken_for, true, ℕ, ◌++◌, ◌+◌, ◌-◌, ◌<◌, ◌≡◌, ◌≤◌}
use Rattle.mesh_round.proofs.Sums.{sum_agree, sum_none, sum_map, sum_filter}

-- the copy before its last router
abbrev pub back : McCopy → McCopy
back k = record k { hop = k.hop - 1 }

pub back_onward : (k : McCopy) → k.hop < last_hop → back (onward k) ≡ k
back_onward k low = grind arith

-- ---- the outputs that lookup gives

-- the sum over the outputs of a copy, as one over all outputs
pub sum_outputs : (u : Setup) (c : Chip) (port : Port) (k : McCopy) (w : Out → ℕ) →
    sum_by w (outputs u c port k) ≡ sum_by (λ o. cond (leaves_by u c o port k) (w o) 0) all_outs
sum_outputs u c port k w = grind (arith, sum_none, sum_filter, sum_agree, among_outs)
  where
    given : List Out → Out → ℕ
    given os o = cond (list_any (out_eq o) os) (w o) 0

    among_outs : (r : _) (o : Out) → Among o all_outs → list_any (out_eq o) (filter (has r) all_outs) ≡ has r o
    among_outs r o a = grind (arith, out_eq_same o, among_contains o all_outs a, any_among, out_eq_true, among_filter, among_any, contains_among, Contains-filter)

-- a copy that leaves by an output has not the last hop number
pub not_last : (u : Setup) (c : Chip) (o : Out) (port : Port) (k : McCopy) → leaves_by u c o port k ≡ true → k.hop ≤ last_hop → k.hop < last_hop
not_last u c o port k leaves small = grind (arith, answers_none)

module _ (m : State) (f : Flow) (n : State) (passes : Passes m f n) (c : Chip) (o : Out) (live : IsLiveChip m.setup.machine c) (is : IsOutput o) where
  -- the copies that the chip sent by the output, as they were before it
  abbrev pub crossed : List McCopy
  crossed = map back (f.entered (behind m.setup c o))

  taken_low : (k : McCopy) → Among k (taken_for m.setup f c o) → k.hop < last_hop
  taken_low k a =
      let at = among_gathered (λ i port. filter (leaves_by m.setup c o port) (f.left (at_port m.setup c port))) k all_ports a in
      let passing = among_filter (leaves_by m.setup c o at.1) k (f.left (at_port m.setup c at.1)) at.3 in
      not_last m.setup c o at.1 k passing.1 (All-contains (λ (j : McCopy). j.hop ≤ last_hop) (f.left (at_port m.setup c at.1)) k (passes.hops (at_port m.setup c at.1))
      (among_contains k (f.left (at_port m.setup c at.1)) passing.0))

  dumped_low : (k : McCopy) → Among k (dumped_at f c o) → k.hop < last_hop
  dumped_low k a = grind (arith, among_map, among_filter, All-contains, among_contains)

  -- what the router took for the output is what crossed it and what was dumped there, by any weight on copies
  pub taken_is : (w : McCopy → ℕ) → sum_by w (taken_for m.setup f c o) ≡ sum_by w crossed + sum_by w (dumped_at f c o)
  taken_is w =
      let h : McCopy → ℕ = λ k. w (back k) in
      let entered = f.entered (behind m.setup c o) in
      let all = sum_by-IsPermutation h (map onward (taken_for m.setup f c o)) (entered ++ map onward (dumped_at f c o)) (passes.routed c o live is) in
      let took = sum_agree (λ k. h (onward k)) w (taken_for m.setup f c o) (λ k a. ap w (back_onward k (taken_low k a))) in
      let parts = sum_by-append h entered (map onward (dumped_at f c o)) in
      let dropped = sum_agree (λ k. h (onward k)) w (dumped_at f c o) (λ k a. ap w (back_onward k (dumped_low k a))) in
      omega (arith, all, sum_map onward h (taken_for m.setup f c o), took, parts, sum_map back w entered, sum_map onward h (dumped_at f c o), dropped)

  -- what entered the queue behind the output has a hop number of at least 1
  pub entered_is : (k : McCopy) → Among k (f.entered (behind m.setup c o)) → (onward (back k) ≡ k) × (k.hop ≤ last_hop)
  entered_is k a =
      let all : All IsOnward (map onward (taken_for m.setup f c o)) = All-each IsOnward (map onward (taken_for m.setup f c o)) (λ j has.
      let of = among_map onward j (taken_for m.setup f c o) (contains_among j (map onward (taken_for m.setup f c o)) has) in
      subst IsOnward (sym of.2) (is_onward of.0 (taken_low of.0 of.1))) in
      let there = All-permutation IsOnward (map onward (taken_for m.setup f c o)) (f.entered (behind m.setup c o) ++ map onward (dumped_at f c o)) (passes.routed c o live is) all in
      All-contains IsOnward (f.entered (behind m.setup c o) ++ map onward (dumped_at f c o)) k there
      (among_contains k (f.entered (behind m.setup c o) ++ map onward (dumped_at f c o)) (among_left k (f.entered (behind m.setup c o)) (map onward (dumped_at f c o)) a))
    where
      IsOnward : McCopy → Type 0
      IsOnward j = (onward (back j) ≡ j) × (j.hop ≤ last_hop)

      is_onward : (j : McCopy) → j.hop < last_hop → IsOnward (onward j)
      is_onward j low = (ap onward (back_onward j low), omega (arith, low))
