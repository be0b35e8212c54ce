use Rattle.ner_trees.proofs.Common.{IsMarkedBy, take, ◌≡◌}
use Rattle.ner_trees.proofs.cuts.mark.Given as goal

-- the table has the chips where the links so far lead
abbrev pub invariant-loop-link : goal.invariant-loop-link
invariant-loop-link l = (l.on.machine.now ≡ l.fn.on.machine.now) × IsMarkedBy l.fn.on.machine.now l.fn.on.items.items l.on.items.items (take l.link-index l.links)
