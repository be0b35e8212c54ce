-- Few marks come where one leaves: a copy leaves a router by 24 outputs at most.
use Rattle.mesh_core.proofs.Common.{Chip, List, Mark, McCopy, Port, State, all_outs, ap, arith, count_by-le-length, in_hand, inl, inr, length, length-filter, length-map, outputs, refl, ◌∙◌, ◌≡◌, ◌≤◌}
use Rattle.mesh_core.proofs.Moves.{alone_or_taken, mark, IsMove}
use Rattle.spin_base.specs.Outputs.{core_outs, link_outs}

all_few : length all_outs ≡ 24
unfolding link_outs core_outs
all_few = refl

few_outputs : (s : State) (c : Chip) (port : Port) (k : McCopy) → length (outputs s.setup c port k) ≤ 24
few_outputs s c port k = grind (arith, length-filter, count_by-le-length, all_few)

pub few_come : (s : State) (x : Mark) (come : List Mark) → IsMove s x come → length come ≤ 24
few_come s x come move = elim (alone_or_taken s x.copy x.station come move) [
  | inl one ↦ let long : length come ≡ 1 = ap length one.alone in omega (arith, long)
  | inr (c, port, at, are) ↦
      let long : length come ≡ length (outputs s.setup c port x.copy) = ap length are ∙ length-map (outputs s.setup c port x.copy) (λ o. mark x.copy (in_hand c o)) in
      omega (arith, long, few_outputs s c port x.copy)
]
