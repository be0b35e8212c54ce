use Rattle.mesh_run.proofs.Common.{take, ◌++◌, ◌+◌, ◌≡◌}
use Rattle.mesh_run.proofs.gathering.put_all.Given as goal

-- the items so far were put
abbrev pub invariant-loop-item : goal.invariant-loop-item
invariant-loop-item g l = record {
  items : l.log.items ≡ l.fn.log.items ++ take l.item-index l.items;
  spare : l.log.spare + l.item-index ≡ l.fn.log.spare;
}
