use Rattle.job_readers.proofs.Common.{arith, option_map}
use Rattle.job_readers.specs.GraphPart.{net_source_faults, source_value}
use Rattle.job_readers.proofs.KnownNames.{found_faults, found_value, sender_is_name}
use Rattle.job_readers.proofs.graph_parts.source.Goals as goal

pub returns-in-Some-sender-clause-read : goal.returns-in-Some-sender-clause-read
unfolding net_source_faults source_value
returns-in-Some-sender-clause-read c = grind (arith, option_map, found_faults, found_value, sender_is_name)
