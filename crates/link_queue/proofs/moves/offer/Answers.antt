use Rattle.std.proofs.Common.{arith, sym}
use Rattle.link_queue.proofs.StepLemmas.{offers, sees_full, notes_full}
use Rattle.link_queue.proofs.moves.offer.Goals as goal

pub push_as-requires-clause-rule : goal.push_as-requires-clause-rule
push_as-requires-clause-rule g c = (
  offers _ _ _ _ c.requires.sends (sym c.requires.cap),
  sees_full _ _ c.requires.sends,
)

pub another-requires-clause-rule : goal.another-requires-clause-rule
another-requires-clause-rule g c = grind (arith, notes_full)
