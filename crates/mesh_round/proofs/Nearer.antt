-- Each move leaves marks that have less far to go, and few of them.
use Rattle.mesh_round.proofs.Common.{Among, Bool, Chip, Crosses, IsMove, List, Mark, McCopy, Out, Port, State, Station, [], among_only, answers_none, arith, eq-eqb, false, if◌then◌else◌, in_hand, inl}
use Rattle.mesh_round.proofs.Common.{inr, last_hop, map, mark, moves_left, subst, sym, true, ℕ, ◌*◌, ◌+◌, ◌-◌, ◌<◌, ◌==◌, ◌∷◌, ◌≡◌, ◌≤◌}
use Rattle.mesh_round.specs.Work.{to_go}

-- ---- what comes has less far to go

pub move_nears : (s : State) (x : Mark) (come : List Mark) → x.copy.hop ≤ last_hop → IsMove s x come → (y : Mark) → Among y come → to_go y < to_go x
unfolding to_go
move_nears s x come small move y is_come = grind (arith, one, mark, by_last, Among, crossing)
  where
    far : McCopy → Station → ℕ
    far k at = moves_left (last_hop - k.hop) at

    one : (z : Mark) (n : ℕ) → come ≡ z ∷ [] → moves_left (last_hop - z.copy.hop) z.station < n → moves_left (last_hop - y.copy.hop) y.station < n
    one z n is less = subst (λ (w : Mark). moves_left (last_hop - w.copy.hop) w.station < n) (sym (among_only z y come is is_come)) less

    crossing : (k : McCopy) (c : Chip) (o : Out) (n : ℕ) → 3 * (last_hop - k.hop - 1) + 1 < n → Crosses s k c o come → moves_left (last_hop - y.copy.hop) y.station < n
    crossing k c o n less its_5 = grind (arith, one, mark)

    taking : (k : McCopy) (c : Chip) (port : Port) (os : List Out) → k.hop < last_hop → Among y (map (λ o. mark k (in_hand c o)) os) →
        moves_left (last_hop - y.copy.hop) y.station < 3 * (last_hop - k.hop) + 1
    taking k c port [] low a = absurd a
    taking k c port (o ∷ os) low (inl same) = grind arith
    taking k c port (o ∷ os) low (inr later) = taking k c port os low later

    by_last : (k : McCopy) (c : Chip) (port : Port) (b : Bool) → (k.hop == last_hop) ≡ b → k.hop ≤ last_hop → (os : List Out) →
        Among y (map (λ o. mark k (in_hand c o)) (if b then [] else os)) → moves_left (last_hop - y.copy.hop) y.station < 3 * (last_hop - k.hop) + 1
    by_last k c port true last within os a = absurd a
    by_last k c port false more within os a = grind (arith, taking, answers_none, eq-eqb)
