use Rattle.job_readers.proofs.Common.{Net, map, take, ◌≡◌}
use Rattle.job_readers.proofs.run_parts.names_of_nets.Given as goal

abbrev pub invariant-loop-net : goal.invariant-loop-net
invariant-loop-net l = l.names ≡ map (λ (n : Net). n.name) (take l.net-index l.nets)
