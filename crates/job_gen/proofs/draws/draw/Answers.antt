use Rattle.job_gen.proofs.DrawLemmas.{draw_from}
use Rattle.job_gen.proofs.draws.draw.Goals as goal

pub returns-clause-drawn : goal.returns-clause-drawn
returns-clause-drawn c = draw_from c.args.m c.next_word.result c.args.generator.now c.next_word.new.self c.next_word.ensures
