use Rattle.job_readers.proofs.Common.{arith, err_from_is_err_and, length-map}
use Rattle.job_readers.specs.Members.{list_member, list_member_faults}
use Rattle.job_readers.proofs.Firsts.{fails_later}
use Rattle.job_readers.proofs.members.list_of.Goals as goal

pub returns-in_err-count_to-clause-read : goal.returns-in_err-count_to-clause-read
unfolding list_member_faults
returns-in_err-count_to-clause-read c = grind (arith, err_from_is_err_and c.from_residual-in_err-count_to.result c.from_residual-in_err-count_to.ensures.1, length-map, fails_later)

pub returns-clause-read : goal.returns-clause-read
unfolding list_member_faults list_member
returns-clause-read c = grind (arith, length-map)
