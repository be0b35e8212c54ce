use Rattle.job_gen.proofs.Common.{arith, ◌/◌, ◌∙◌}
use Rattle.job_gen.proofs.DrawLemmas.{packet_from, keys_there}
use Rattle.job_gen.proofs.draws.draw_packet.Goals as goal

pub returns : goal.returns
returns c = packet_from _ _ _ _ _ _ _ _ (c.from.ensures ∙ keys_there c.args.all.nets.now (c.args.i / 4) c.index-all-net.result (omega arith)) c.draw-index.ensures.drawn c.draw-payload.ensures.drawn
