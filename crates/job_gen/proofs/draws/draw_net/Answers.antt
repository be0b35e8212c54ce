use Rattle.job_gen.proofs.DrawLemmas.{net_from}
use Rattle.job_gen.specs.Draws.{drawn_target}
use Rattle.job_gen.proofs.draws.draw_net.Goals as goal

pub returns : goal.returns
unfolding drawn_target
returns c = net_from _ _ _ _ _ _ _ _ _ _ c.draw-source.ensures.drawn c.draw.ensures.drawn c.in_ok-targets.ensures c.draw-2.ensures.drawn
