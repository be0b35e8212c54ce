use Rattle.app_loads.proofs.Common.{all_grouped, take, ◌++◌, ◌≡◌}
use Rattle.app_loads.proofs.meshes.keep_each.Given as goal

-- those so far are kept
abbrev pub invariant-loop-at : goal.invariant-loop-at
invariant-loop-at l = all_grouped l.earlier ≡ all_grouped l.fn.earlier ++ take l.at l.list
