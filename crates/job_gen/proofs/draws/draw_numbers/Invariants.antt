-- So many were drawn.
use Rattle.job_gen.proofs.Common.{draw, draws, ◌+◌, ◌≡◌}
use Rattle.job_gen.proofs.draws.draw_numbers.Given as goal

abbrev pub invariant-loop-i : goal.invariant-loop-i
invariant-loop-i l = (l.numbers.items, l.generator) ≡ draws (λ i. draw (l.most + 1)) l.i l.initial.generator
