-- The merge that was chosen is legal.
use Rattle.cover_merge.proofs.Common.{HasNoChosen, IsChosen, List, Row, subst}
use Rattle.cover_merge.proofs.CoverLemmas.{chosen_legal}
use Rattle.cover_merge.proofs.covering.merge_next.Goals as goal

pub merge_at-requires-clause-merge : goal.merge_at-requires-clause-merge
merge_at-requires-clause-merge c =
    chosen_legal c.args.table.now.rows c.in-Some.places c.requires.told.rivaled.sound
    (subst (λ (l : List Row). IsChosen l c.in-Some.places) c.as_slice.ensures (rw c.in-Some.is at c.in_ok-places.ensures.found))

pub returns-in_ok-merge_at-in-Some-clause-found : goal.returns-in_ok-merge_at-in-Some-clause-found
returns-in_ok-merge_at-in-Some-clause-found c = subst (λ (l : List Row). IsChosen l c.in-Some.places) c.as_slice.ensures (rw c.in-Some.is at c.in_ok-places.ensures.found)

pub returns-in-None-clause-found : goal.returns-in-None-clause-found
returns-in-None-clause-found c = subst (λ (l : List Row). HasNoChosen l) c.as_slice.ensures (rw c.in-None.is at c.in_ok-places.ensures.found)
