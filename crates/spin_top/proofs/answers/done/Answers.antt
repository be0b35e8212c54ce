use Rattle.std.proofs.Common.{refl}
use Rattle.run_report.specs.declared.causes.Refusal.TheVariants as refusals
use Rattle.spin_input.specs.Inputs.{Reading}
use Rattle.spin_input.proofs.JobBytes.{err_carried}
use Rattle.spin_top.specs.{Causes.HasCause, Causes.of_steps, Inputs.no_value, Made.done}
use Rattle.spin_top.proofs.{AppLaws.done_of, EndLaws.cause_with_steps}
use Rattle.spin_top.proofs.answers.done.Goals as goal

pub returns-in-Ok-clause-made : goal.returns-in-Ok-clause-made
returns-in-Ok-clause-made g c = λ words asks.
    let steps = c.in_ok-steps.steps in
    done asks steps c.in_ok-steps.ensures.steps
    (done_of steps c.as_slice.result.now c.in-Ok.answered.apps c.in-Ok.answered.text c.as_slice.ensures c.in-Ok.ensures.answered c.in-Ok.ensures.given c.in-Ok.ensures.apps
    c.in-Ok.ensures.only)
    c.no_parts.ensures

pub returns-clause-err : goal.returns-clause-err
returns-clause-err g c = λ words asks.
    let reading : Reading = record {
      left = g.S.Source.left c.args.source.now;
      rest = g.S.Source.left c.read_steps.new.source;
      faults = g.S.Source.faults c.args.source.now;
      faults' = g.S.Source.faults c.read_steps.new.source;
    }
    in
    cause_with_steps words reading asks c.in_ok-steps.steps c.in_ok-steps.ensures.steps refusals.Memory refl

pub returns-in_err-steps-clause-err : goal.returns-in_err-steps-clause-err
returns-in_err-steps-clause-err g c = λ words asks.
    let reading : Reading = record {
      left = g.S.Source.left c.args.source.now;
      rest = g.S.Source.left c.read_steps.new.source;
      faults = g.S.Source.faults c.args.source.now;
      faults' = g.S.Source.faults c.read_steps.new.source;
    }
    in
    err_carried c.from_residual.result c.in_err-steps.field-0.0 (HasCause words reading) c.from_residual.ensures
    (of_steps asks (no_value c.in_err-steps.ensures.err))
