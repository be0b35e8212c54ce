-- The parts of a job in order, each read together with the job's own shape.
use Rattle.job_readers.proofs.Common.{IsFirstFault, JobFault, List, TextErr, [], refl, ◌++◌, ◌∷◌, ◌≡◌, ◌▹◌}
use Rattle.job_text.specs.declared.faults.TextErr.TheVariants as errors
use Rattle.job_readers.proofs.Firsts.{fails_before, fails_later}

-- the first part has the first fault
pub part_first : (e : TextErr) (own a b : List JobFault) → IsFirstFault e (own ▹ a) → IsFirstFault e (own ▹ (a ++ b))
part_first errors.Memory own a b h = tt
part_first (errors.Fault f) [] a b h = fails_before (errors.Fault f) a b h
part_first (errors.Fault f) (x ∷ own) a b h = h

-- the first part has none
pub part_later : (e : TextErr) (own a b : List JobFault) → own ▹ a ≡ [] → IsFirstFault e (own ▹ b) → IsFirstFault e (own ▹ (a ++ b))
part_later e [] a b none h = fails_later e a b none h
part_later e (x ∷ own) a b none h = absurd cc

-- neither has one
pub part_none : (own a b : List JobFault) → own ▹ a ≡ [] → own ▹ b ≡ [] → own ▹ (a ++ b) ≡ []
part_none [] a b first second = rw (first, second) refl
part_none (x ∷ own) a b first second = absurd cc

pub ruleset parts = (part_first, part_later, part_none)
