use Rattle.job_gen.specs.Draws.{drawn_net}
use Rattle.job_gen.proofs.DrawLemmas.{draws_none, draws_push}
use Rattle.job_gen.proofs.draws.draw_nets.Goals as goal

pub loop-i-init : goal.loop-i-init
loop-i-init c = draws_none drawn_net c.args.generator.now c.new-nets.result.items c.new-nets.ensures.items

pub loop-i-preserved : goal.loop-i-preserved
unfolding drawn_net
loop-i-preserved c = draws_push _ _ _ _ _ _ _ _ c.in_ok-push.ensures.items c.loop-i.invariant c.in_ok-net.ensures
