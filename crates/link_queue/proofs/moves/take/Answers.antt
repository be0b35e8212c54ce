use Rattle.std.proofs.Common.{sym, subst}
use Rattle.crossbeam_queue.specs.Fifo.{Forks}
use Rattle.link_queue.specs.{TheRule.Kept, Steps.none_noted, Steps.blank}
use Rattle.link_queue.proofs.StepLemmas.{takes, sees_empty, notes_none, whole_taken, whole_length}
use Rattle.link_queue.proofs.moves.take.Goals as goal

pub pop_as-requires-clause-rule : goal.pop_as-requires-clause-rule
pop_as-requires-clause-rule g c = (takes _ _ c.requires.takes, sees_empty _ _ c.requires.takes)

pub another-requires-clause-rule : goal.another-requires-clause-rule
another-requires-clause-rule g c =
    let r = c.in-None.ensures.rule in
    subst (λ u. Forks Kept c.pop_as.new.pass.id u (none_noted u) blank) (sym r.0)
    (notes_none _ _ c.requires.takes (whole_length _ _ (whole_taken _ _ r.1.0 r.1.1 r.1.2.1)))
