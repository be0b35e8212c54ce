-- The loop ends at the end, or at a rival that is more general.
use Rattle.cover_merge.proofs.Common.{arith}
use Rattle.cover_merge.proofs.{PutInLemmas.put_before, carrying.put_rival.Goals.then-loop-at-test+else-index-rival, carrying.put_rival.Goals.else-loop-at-test}
use Rattle.cover_merge.proofs.carrying.put_rival.Goals as goal

pub returns : goal.returns
returns c ordered = grind (arith, then-loop-at-test+else-index-rival, put_before, else-loop-at-test)
