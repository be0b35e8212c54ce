-- So many were drawn.
use Rattle.job_gen.proofs.Common.{drawn_packet, draws, ◌≡◌}
use Rattle.job_gen.proofs.draws.draw_packets.Given as goal

abbrev pub invariant-loop-i : goal.invariant-loop-i
invariant-loop-i l = (l.packets.items, l.generator) ≡ draws (drawn_packet l.all.nets.now) l.i l.initial.generator
