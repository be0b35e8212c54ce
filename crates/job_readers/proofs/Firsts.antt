-- A first fault stays first when more faults are appended, or stand inside.
use Rattle.job_readers.proofs.Common.{IsFirstFault, JobFault, List, TextErr, [], ◌++◌, ◌∷◌, ◌≡◌, ◌▹◌}
use Rattle.job_text.specs.declared.faults.TextErr.TheVariants as errors

pub fails_before : (e : TextErr) (a b : List JobFault) → IsFirstFault e a → IsFirstFault e (a ++ b)
fails_before errors.Memory a b h = tt
fails_before (errors.Fault f) [] b h = absurd cc
fails_before (errors.Fault f) (x ∷ a) b h = h

pub fails_later : (e : TextErr) (a b : List JobFault) → a ≡ [] → IsFirstFault e b → IsFirstFault e (a ++ b)
fails_later e a b none h = rw none h

pub fails_own : (e : TextErr) (a b : List JobFault) → IsFirstFault e a → IsFirstFault e (a ▹ b)
fails_own errors.Memory a b h = tt
fails_own (errors.Fault f) [] b h = absurd cc
fails_own (errors.Fault f) (x ∷ a) b h = h

pub fails_inside : (e : TextErr) (a b : List JobFault) → a ≡ [] → IsFirstFault e b → IsFirstFault e (a ▹ b)
fails_inside e a b none h = rw none h

pub ruleset firsts = (fails_before, fails_later, fails_own, fails_inside)
