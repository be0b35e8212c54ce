use Rattle.std.proofs.Common.{rules}
use Rattle.tcam_find.proofs.known.next_group.Goals as goal

pub returns-in-Some-clause-others : goal.returns-in-Some-clause-others
returns-in-Some-clause-others c gs knows i g some low high got = search rules
