use Rattle.mesh_run.proofs.HomeLaws.{CutsTo}
use Rattle.mesh_run.proofs.homes.cuts_of.Given as goal

-- the cuts so far
abbrev pub invariant-loop-place : goal.invariant-loop-place
invariant-loop-place l = CutsTo l.homes l.place l.cuts.items
