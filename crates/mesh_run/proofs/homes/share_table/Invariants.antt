use Rattle.mesh_run.proofs.HomeLaws.{RunTo, TableTo}
use Rattle.mesh_run.proofs.homes.share_table.Given as goal

-- the runs so far
abbrev pub invariant-loop-number : goal.invariant-loop-number
invariant-loop-number l = TableTo l.ends l.number l.table.items

-- the places so far of the run at hand
abbrev pub invariant-loop-place : goal.invariant-loop-place
invariant-loop-place l = RunTo l.ends l.number l._place l.table.items
