use Rattle.link_detours.proofs.Common.{AreWaves, IsIn, IsReachedBy, IsSpreadBut, IsWave, LeadsTo, sum_by, ℕ, ◌*◌, ◌-◌, ◌<◌}
use Rattle.link_detours.proofs.detours.waves.Given as goal

-- the waves so far and the next of them, the columns in which it can spread, and the target is in none of those so far
abbrev pub invariant-spreading : goal.invariant-spreading
invariant-spreading l = record {
  count : ℕ;
  waves : AreWaves l.target.front.ground.machine.now (IsIn l.target.front.set.now) count l.waves.items;
  wave : IsWave l.target.front.ground.machine.now (IsIn l.target.front.set.now) count l.last;
  near : IsSpreadBut l.target.front.ground.machine.now l.last l.near;
  off : (k : ℕ) → k < count → IsReachedBy (LeadsTo l.target.front.ground.machine.now) (IsIn l.target.front.set.now) k l.target.chip → ⊥;
}

-- each wave has a greater sum
abbrev pub decreases-spreading : goal.decreases-spreading
decreases-spreading l = l.target.front.ground.machine.now.width * 18446744073709551615 - sum_by (λ n. n) l.last
