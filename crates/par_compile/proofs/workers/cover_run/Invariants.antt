use Rattle.par_compile.proofs.Working.{IsWorkedTo}
use Rattle.par_compile.proofs.workers.cover_run.Given as goal

-- the chips before place k are worked on
abbrev pub invariant-loop-k : goal.invariant-loop-k
invariant-loop-k g l = IsWorkedTo l.target l.fn.part l.part l.k
