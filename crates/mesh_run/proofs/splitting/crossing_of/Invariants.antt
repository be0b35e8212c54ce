use Rattle.mesh_run.proofs.Common.{cut_queues, take, ◌++◌, ◌≡◌}
use Rattle.mesh_run.proofs.splitting.crossing_of.Given as goal

-- the queues of the cuts so far
abbrev pub invariant-loop-cut : goal.invariant-loop-cut
invariant-loop-cut l = l.crossing.items ≡ cut_queues (l.parts.inputs ++ l.parts.cores) (take l.cut-index l.cuts)
