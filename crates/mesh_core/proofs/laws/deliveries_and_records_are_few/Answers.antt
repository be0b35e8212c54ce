use Rattle.mesh_core.proofs.FewMarks.{few_ends, few_at_limits}
use Rattle.mesh_core.proofs.laws.deliveries_and_records_are_few.Goals as goal

pub returns-clause-few : goal.returns-clause-few
returns-clause-few c = λ s nets packets most job each. few_ends s nets packets job most each

pub returns-clause-at_limits : goal.returns-clause-at_limits
returns-clause-at_limits c = λ s nets packets job few vertices. few_at_limits s nets packets job few vertices
