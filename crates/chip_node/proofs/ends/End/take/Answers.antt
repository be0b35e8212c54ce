use Rattle.chip_node.proofs.Common.{IsEndOf, subst}
use Rattle.chip_node.proofs.Offering.{in_end_stays}
use Rattle.chip_node.proofs.ends.End.take.Goals as goal

pub returns-in-Takes-clause-end : goal.returns-in-Takes-clause-end
returns-in-Takes-clause-end g c = in_end_stays _ _ _ _ (subst (IsEndOf c.args.links.now) c.in-Takes.is c.requires) c.index-links-end.is c.take.ensures.end
