use Rattle.run_report.proofs.Common.{min, range_with_len, sum_by, unsent_by, ◌-◌, ◌^◌, ◌≡◌}
use Rattle.run_report.proofs.unsents.unsent_of.Given as goal

abbrev pub invariant-loop-vertex : goal.invariant-loop-vertex
invariant-loop-vertex l = l.unsent ≡ min (sum_by (unsent_by l.numbered.mesh.now) (range_with_len 0 l.vertex)) (2 ^ 32 - 1)
