use Rattle.mesh_run.proofs.Common.{◌≤◌}
use Rattle.mesh_run.proofs.HomeLaws.{RiseTo}
use Rattle.mesh_run.proofs.homes.runs_of.Given as goal

-- the runs so far
abbrev pub invariant-loop-place : goal.invariant-loop-place
invariant-loop-place l = RiseTo l.place l.ends.items × (l.here ≤ l.place)
