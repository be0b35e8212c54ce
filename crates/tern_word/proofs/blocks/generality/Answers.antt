-- The 0 bits of the mask are what `count_zeros` counts.
use Rattle.tern_word.specs.Ternary.{generality}
use Rattle.tern_word.proofs.blocks.generality.Goals as goal

pub returns-clause-value : goal.returns-clause-value
unfolding generality
returns-clause-value c = c.count_zeros.ensures.value
