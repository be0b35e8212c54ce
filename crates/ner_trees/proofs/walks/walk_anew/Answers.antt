use Rattle.ner_trees.proofs.Common.{Dir, Disp, List, Run, arith, flat_map, longest_first, run_links, runs_of, take, take_all, ℕ, ◌≡◌, ◌≤◌}
use Rattle.ner_trees.specs.LongestFirst.{ldf_of}
use Rattle.ner_trees.proofs.LongestFirst.{length-longest_first}
use Rattle.ner_trees.proofs.walks.walk_anew.Goals as goal

-- once the runs are through the walk is whole
walked : (d : Disp) (walk : List Dir) (rs : List Run) (i : ℕ) → 3 ≤ i → (walk ≡ flat_map run_links (take i rs)) × (rs ≡ longest_first (runs_of d)) → walk ≡ ldf_of d
unfolding ldf_of
walked d walk rs i past so_far = grind (arith, length-longest_first (runs_of d), take_all)

pub returns : goal.returns
returns c = walked c.args.d _ _ _ c.loop-next-test.false c.loop-next.invariant
