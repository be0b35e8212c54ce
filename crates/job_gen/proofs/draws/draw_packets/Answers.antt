use Rattle.job_gen.proofs.Common.{drawn_packet}
use Rattle.job_gen.proofs.DrawLemmas.{draws_none, draws_push}
use Rattle.job_gen.proofs.draws.draw_packets.Goals as goal

pub loop-i-init : goal.loop-i-init
loop-i-init c = draws_none (drawn_packet c.args.all.nets.now) c.args.generator.now c.new-packets.result.items c.new-packets.ensures.items

pub loop-i-preserved : goal.loop-i-preserved
loop-i-preserved c = draws_push _ _ _ _ _ _ _ _ c.in_ok-push.ensures.items c.loop-i.invariant c.draw_packet-packet.ensures
