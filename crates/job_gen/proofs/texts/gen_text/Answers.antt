use Rattle.job_gen.proofs.Common.{ap, json_of, length, subst, sym, ◌∙◌, ◌≤◌}
use Rattle.job_gen.proofs.Written.{generated_text_is_read, text_short, text_written}
use Rattle.job_gen.proofs.texts.gen_text.Goals as goal

pub returns-clause-text : goal.returns-clause-text
returns-clause-text c = c.from_vec.ensures ∙ text_written c.in_ok-bytes.bytes.items _ c.in_ok-job.job c.args.n c.in_ok-value.ensures c.in_ok-job.ensures c.in_ok-bytes.ensures.text

pub returns-clause-few : goal.returns-clause-few
returns-clause-few c = subst (λ bytes. length bytes ≤ 16777216) (sym (returns-clause-text c)) (text_short c.args.n)

pub returns-clause-reads_back : goal.returns-clause-reads_back
returns-clause-reads_back c = ap json_of (returns-clause-text c) ∙ generated_text_is_read c.args.n
