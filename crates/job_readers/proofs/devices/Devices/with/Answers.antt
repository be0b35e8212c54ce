use Rattle.job_readers.proofs.Common.{Bool, arith, cond, false, list_any-append, refl, true, ◌||◌, ◌≡◌}
use Rattle.job_readers.proofs.devices.Devices.with.Goals as goal

either : (a b : Bool) → cond a true b ≡ (b || (a || false))
either true true = refl
either true false = refl
either false true = refl
either false false = refl

pub invariant_of-result : goal.invariant_of-result
invariant_of-result c = grind (arith, either, list_any-append)
