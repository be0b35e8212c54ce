use Rattle.mesh_run.proofs.HomeLaws.{run_more}
use Rattle.mesh_run.proofs.homes.share_table.Goals as goal

pub loop-place-preserved : goal.loop-place-preserved
loop-place-preserved c = run_more c.args.ends.now c.loop-number.number c.loop-place._place c.loop-place.table.items c.push.new.self.items c.loop-place.invariant c.in_ok-push.ensures.items
