-- A list that is none, one of too many items, and one of few.
use Rattle.std.proofs.Common.{refl, ◌∙◌}
use Rattle.std.proofs.lemmas.{List.length-map, Result.err_from_is_err_and}
use Rattle.job_readers.specs.Members.{list_member_faults, list_member}
use Rattle.job_readers.proofs.Firsts.{fails_before, fails_later}
use Rattle.table_readers.proofs.asking.list_of.Goals as goal

pub returns-in_err-items-clause-read : goal.returns-in_err-items-clause-read
unfolding list_member_faults
returns-in_err-items-clause-read c =
    let p = err_from_is_err_and c.from_residual.result c.from_residual.ensures.1 in
    rw (p.1, p.2, ← c.member.ensures) (fails_before c.in_err-items.field-0.0 _ _ c.in_err-items.ensures)

pub returns-in_err-count_to-clause-read : goal.returns-in_err-count_to-clause-read
unfolding list_member_faults
returns-in_err-count_to-clause-read c =
    let p = err_from_is_err_and c.from_residual-in_err-count_to.result c.from_residual-in_err-count_to.ensures.1 in
    rw (p.1, p.2, ← c.member.ensures, ← c.in_ok-items.ensures.1, length-map) (fails_later c.in_err-count_to.field-0.0 _ _ c.in_ok-items.ensures.0 c.in_err-count_to.ensures.faults)

pub returns-clause-read : goal.returns-clause-read
unfolding list_member_faults list_member
returns-clause-read c =
    (rw (← c.member.ensures, c.in_ok-items.ensures.0, ← c.in_ok-items.ensures.1, length-map) c.in_ok-count_to.ensures.faults.0, c.in_ok-items.ensures.1 ∙ rw c.member.ensures refl)
