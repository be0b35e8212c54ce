use Rattle.link_queue.specs.Ends.{IsRx}
use Rattle.stage_trials.proofs.links.take_all.Given as goal

-- it stays the link's end
abbrev pub invariant-loop : goal.invariant-loop
invariant-loop g l = IsRx l.link l.rx
