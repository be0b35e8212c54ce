use Rattle.job_gen.proofs.Common.{ap, draw, ℕ, ◌+◌, ◌∙◌}
use Rattle.job_gen.proofs.DrawLemmas.{draws_none, draws_push}
use Rattle.job_gen.proofs.draws.draw_numbers.Goals as goal

pub loop-i-init : goal.loop-i-init
loop-i-init c = draws_none (λ i. draw (c.args.most + 1)) c.args.generator.now c.new-numbers.result.items c.new-numbers.ensures.items

pub loop-i-preserved : goal.loop-i-preserved
loop-i-preserved c =
    draws_push (λ i. draw (c.args.most + 1)) _ _ _ _ _ _ _ c.in_ok-push.ensures.items c.loop-i.invariant (c.draw-number.ensures.drawn ∙ ap (λ (m : ℕ). draw (m + 1) c.loop-i.generator) c.from.ensures)
