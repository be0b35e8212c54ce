use Rattle.ner_trees.proofs.Common.{flat_map, longest_first, run_links, runs_of, take, ◌≡◌}
use Rattle.ner_trees.proofs.walks.walk_anew.Given as goal

-- the steps of the runs so far
abbrev pub invariant-loop-next : goal.invariant-loop-next
invariant-loop-next l = (l.walk.items ≡ flat_map run_links (take l.next-index l.next-items)) × (l.next-items ≡ longest_first (runs_of l.fn.d))
