-- Where a part has no fault in all, none of what it has inside has one.
use Rattle.job_readers.proofs.Common.{JobFault, List, [], refl, ◌++◌, ◌∷◌, ◌≡◌, ◌▹◌}

pub none_first : (faults others : List JobFault) → faults ++ others ≡ [] → faults ≡ []
none_first [] others none = refl
none_first (f ∷ faults) others none = cc

pub none_second : (faults others : List JobFault) → faults ++ others ≡ [] → others ≡ []
none_second [] others none = none
none_second (f ∷ faults) others none = cc

pub none_inside : (own inner : List JobFault) → own ▹ inner ≡ [] → inner ≡ []
none_inside [] inner none = none
none_inside (f ∷ own) inner none = cc
