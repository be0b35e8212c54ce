use Rattle.chip_node.proofs.Offering.{out_end_read, out_end_stays, refuses_more, refuses_one}
use Rattle.chip_node.proofs.ends.OutEnd.send.Goals as goal

pub loop-preserved : goal.loop-preserved
loop-preserved g c =
    let inv = c.loop.invariant in
    let end = out_end_read c.args.links.now c.loop.self c.index-links-self.result inv.0 c.index-links-self.is in (
      out_end_stays _ _ _ _ inv.0 c.index-links-self.is c.offer.ensures.end,
      inv.1,
      refuses_more _ _ _ _ inv.2 (refuses_one _ _ _ c.in-Full.ensures.answer.1 end.cap),
    )

pub returns-in-Taken-clause-end : goal.returns-in-Taken-clause-end
returns-in-Taken-clause-end g c = out_end_stays _ _ _ _ c.loop.invariant.0 c.index-links-self.is c.offer.ensures.end
