-- So many were drawn.
use Rattle.job_gen.proofs.Common.{drawn_net, draws, ◌≡◌}
use Rattle.job_gen.proofs.draws.draw_nets.Given as goal

abbrev pub invariant-loop-i : goal.invariant-loop-i
invariant-loop-i l = (l.nets.items, l.generator) ≡ draws drawn_net l.i l.initial.generator
