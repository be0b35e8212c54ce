use Rattle.app_loads.proofs.Common.{sent_of, sym, ◌∙◌}
use Rattle.app_loads.proofs.GroupLaws.{at_last}
use Rattle.app_loads.proofs.group.is_last.Goals as goal

pub returns-in-Some : goal.returns-in-Some
returns-in-Some c is = at_last c.args.sent.now c.in-Some.last (sent_of c.args.copy) (sym c.last.ensures ∙ c.in-Some.is) (c.is_of.ensures is)
