use Rattle.link_queue.specs.Ends.{IsTx}
use Rattle.stage_trials.proofs.links.send_all.Given as goal

-- it stays the link's end
abbrev pub invariant-loop : goal.invariant-loop
invariant-loop g l = IsTx l.link l.tx
