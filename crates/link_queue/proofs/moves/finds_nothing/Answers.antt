use Rattle.std.proofs.Common.{sym, subst, refl}
use Rattle.crossbeam_queue.specs.Fifo.{Forks}
use Rattle.link_queue.specs.{TheRule.Kept, Steps.none_noted, Steps.blank}
use Rattle.link_queue.proofs.StepLemmas.{sees_empty, notes_none, whole_taken, whole_length}
use Rattle.link_queue.proofs.moves.finds_nothing.Goals as goal

pub is_empty_as-requires-clause-rule : goal.is_empty_as-requires-clause-rule
is_empty_as-requires-clause-rule c = sees_empty _ _ c.requires.takes

pub another-requires-clause-rule : goal.another-requires-clause-rule
another-requires-clause-rule c =
    let r = c.if-not-is_empty_as.ensures.rule refl in
    subst (λ u. Forks Kept c.is_empty_as.new.pass.id u (none_noted u) blank) (sym c.is_empty_as.ensures.queue.1)
    (notes_none _ _ c.requires.takes (whole_length _ _ (whole_taken _ _ r.0 r.1 r.2.1)))
