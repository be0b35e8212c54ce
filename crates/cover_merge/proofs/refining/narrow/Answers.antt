-- The best bit against the first alias met narrows the set.
use Rattle.cover_merge.proofs.RefineLemmas.{down_step}
use Rattle.cover_merge.proofs.refining.narrow.Goals as goal

pub returns-in-Some : goal.returns-in-Some
returns-in-Some c = down_step _ _ _ c.requires.merged _ _ c.generality.ensures.value c.place_in-place.ensures.value c.requires.set c.requires.up _ c.in-Some.ensures _ c.choose.ensures
