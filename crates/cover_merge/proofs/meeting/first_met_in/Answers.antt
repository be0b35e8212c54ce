-- The spans that were read are those of the row.
use Rattle.cover_merge.proofs.Common.{arith, get_or, get_or_default}
use Rattle.cover_merge.proofs.SpanLemmas.{met_at}
use Rattle.cover_merge.proofs.meeting.first_met_in.Goals as goal

pub returns-in-Some : goal.returns-in-Some
returns-in-Some c d = grind (arith, get_or, get_or_default, met_at)
