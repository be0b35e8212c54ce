use Rattle.ner_trees.proofs.Common.{arith, true≢false}
use Rattle.ner_trees.proofs.{Searching.better_past, Searching.steps_more, Searching.ring_found, Searching.ring_none, searches.nearest_on_ring.Goals.then-is_any_at_step}
use Rattle.ner_trees.proofs.searches.nearest_on_ring.Goals.{else-is_any_at_step}
use Rattle.ner_trees.proofs.searches.nearest_on_ring.Goals as goal

pub loop-step-preserved : goal.loop-step-preserved
loop-step-preserved c = grind (arith, then-is_any_at_step, steps_more, else-is_any_at_step, better_past, true≢false)

pub returns-clause-found : goal.returns-clause-found
returns-clause-found c = grind (arith, ring_found)

pub returns-clause-none : goal.returns-clause-none
returns-clause-none c = grind (arith, ring_none)
