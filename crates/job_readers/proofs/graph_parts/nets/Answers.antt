use Rattle.job_readers.specs.GraphPart.{nets_faults, nets_value}
use Rattle.job_readers.proofs.graph_parts.nets.Goals as goal

pub returns-clause-read : goal.returns-clause-read
unfolding nets_faults nets_value
returns-clause-read c = rw (c.in_ok-items.ensures.read.0, ← c.in_ok-items.ensures.read.1) c.each_net.ensures.read
