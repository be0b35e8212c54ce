use Rattle.mesh_run.proofs.Common.{IsEmptyHand, get_or, refl, subst, sym}
use Rattle.mesh_run.proofs.SplitLaws.{nothing_more}
use Rattle.mesh_run.proofs.splitting.empty_shares.Goals as goal

pub loop-to-preserved : goal.loop-to-preserved
loop-to-preserved c =
    nothing_more c.args.runs.now c.args.queues c.args.vertices c.loop-to.to-index c.loop-to.from (get_or c.args.runs.now c.loop-to.to-index 0) c.share_of.result c.loop-to.shares.items
    c.push.new.self.items
    c.loop-to.invariant refl c.share_of.ensures.from c.share_of.ensures.to (subst (IsEmptyHand c.args.queues c.args.vertices) (sym c.share_of.ensures.hold) c.in_ok-hold.ensures)
    c.in_ok-push.ensures.items
