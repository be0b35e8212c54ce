use Rattle.job_readers.proofs.Common.{arith, props, ∥∥₁_elim}
use Rattle.job_readers.proofs.run_parts.run_members.Goals as goal

pub overflow_cast-vertices : goal.overflow_cast-vertices
overflow_cast-vertices c = record { fits = ∥∥₁_elim c.args.valid.now.valid (hlevel props) (λ valid. omega (arith, valid.few_vertices)) }
