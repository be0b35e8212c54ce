use Rattle.std.proofs.Common.{Some, refl, sym, ap, ◌∙◌}
use Rattle.spin_input.specs.Inputs.{Reading}
use Rattle.spin_input.proofs.JobBytes.{err_carried}
use Rattle.spin_words.specs.Commands.{texts_of}
use Rattle.spin_top.specs.{Causes.HasCause, Made.from_job}
use Rattle.spin_top.proofs.EndLaws.{cause_with_job, cause_without_job, job_of_number}
use Rattle.spin_top.proofs.tops.made_of.Goals as goal

pub made_of_job-requires-clause-generated : goal.made_of_job-requires-clause-generated
made_of_job-requires-clause-generated g c κs within = job_of_number c.in-OfJob.word _ c.in_ok-job-in-OfJob.job c.in_ok-job-in-OfJob.ensures.job

pub returns-in_ok-made-in-OfJob-clause-made : goal.returns-in_ok-made-in-OfJob-clause-made
returns-in_ok-made-in-OfJob-clause-made g c =
    from_job (record {
      word = c.in-OfJob.word;
      is_word = sym c.in-Some.ensures ∙ ap Some c.in-OfJob.is;
      job = c.in_ok-job-in-OfJob.job;
      its_job = c.in_ok-job-in-OfJob.ensures.job;
      names = c.in_ok-job-in-OfJob.ensures.names;
      made = c.in_ok-made-in-OfJob.ensures.made;
    }) refl

pub returns-in_err-made-in-OfJob-clause-err : goal.returns-in_err-made-in-OfJob-clause-err
returns-in_err-made-in-OfJob-clause-err g c =
    let words = texts_of c.args.words.now in
    let reading : Reading = record {
      left = g.S.Source.left c.args.source.now;
      rest = g.S.Source.left c.job_for.new.source;
      faults = g.S.Source.faults c.args.source.now;
      faults' = g.S.Source.faults c.job_for.new.source;
    }
    in
    err_carried c.from_residual-in_err-made-in-OfJob.result c.in_err-made-in-OfJob.field-0.0 (HasCause words reading) c.from_residual-in_err-made-in-OfJob.ensures
    (cause_with_job words reading c.in-OfJob.word c.in_ok-job-in-OfJob.job (sym c.in-Some.ensures ∙ ap Some c.in-OfJob.is) c.in_ok-job-in-OfJob.ensures.job c.in_err-made-in-OfJob.field-0.0 c.in_err-made-in-OfJob.ensures.err)

pub returns-in_err-job-in-OfJob-clause-err : goal.returns-in_err-job-in-OfJob-clause-err
returns-in_err-job-in-OfJob-clause-err g c =
    let words = texts_of c.args.words.now in
    let reading : Reading = record {
      left = g.S.Source.left c.args.source.now;
      rest = g.S.Source.left c.job_for.new.source;
      faults = g.S.Source.faults c.args.source.now;
      faults' = g.S.Source.faults c.job_for.new.source;
    }
    in
    err_carried c.from_residual.result c.in_err-job-in-OfJob.field-0.0 (HasCause words reading) c.from_residual.ensures
    (cause_without_job words reading c.in-OfJob.word (sym c.in-Some.ensures ∙ ap Some c.in-OfJob.is) c.in_err-job-in-OfJob.field-0.0 c.in_err-job-in-OfJob.ensures.err)

pub returns-in-Check-clause-made : goal.returns-in-Check-clause-made
returns-in-Check-clause-made g c = c.checked.ensures.made (texts_of c.args.words.now) (sym c.in-Some.ensures ∙ ap Some c.in-Check.is)

pub returns-in-Check-clause-err : goal.returns-in-Check-clause-err
returns-in-Check-clause-err g c = c.checked.ensures.err (texts_of c.args.words.now) (sym c.in-Some.ensures ∙ ap Some c.in-Check.is)

pub returns-in-Apps-clause-made : goal.returns-in-Apps-clause-made
returns-in-Apps-clause-made g c = c.done.ensures.made (texts_of c.args.words.now) (sym c.in-Some.ensures ∙ ap Some c.in-Apps.is)

pub returns-in-Apps-clause-err : goal.returns-in-Apps-clause-err
returns-in-Apps-clause-err g c = c.done.ensures.err (texts_of c.args.words.now) (sym c.in-Some.ensures ∙ ap Some c.in-Apps.is)
