use Rattle.job_readers.proofs.Named.{read_apart}
use Rattle.job_readers.proofs.jobs.job_of.Goals as goal

pub returns-clause-names : goal.returns-clause-names
returns-clause-names c = read_apart _ _ _ _ c.in_ok-graph.graph c.in_ok-graph.ensures.graph.0 c.in_ok-graph.ensures.graph.1
