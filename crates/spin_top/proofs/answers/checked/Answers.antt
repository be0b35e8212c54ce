use Rattle.std.proofs.Common.{refl}
use Rattle.spin_input.specs.Inputs.{Reading}
use Rattle.spin_input.proofs.JobBytes.{err_carried}
use Rattle.spin_top.specs.{Causes.HasCause, Causes.of_request, Inputs.no_value, Made.checked}
use Rattle.spin_top.proofs.{CheckLaws.checked_of, EndLaws.cause_with_request}
use Rattle.spin_top.proofs.answers.checked.Goals as goal

pub returns-clause-made : goal.returns-clause-made
returns-clause-made g c = λ words asks.
    let request = c.in_ok-request.request in
    checked asks request c.in_ok-request.ensures.request
    (checked_of request c.as_slice-trees.result.now c.as_slice-image.result.now c.in_ok-text.text c.as_slice-trees.ensures c.as_slice-image.ensures
    c.in_ok-text.ensures.answer c.in_ok-text.ensures.only c.in_ok-text.ensures.right c.in_ok-text.ensures.wrong c.in_ok-text.ensures.made) c.no_parts.ensures refl

pub returns-in_err-request-clause-err : goal.returns-in_err-request-clause-err
returns-in_err-request-clause-err g c = λ words asks.
    let reading : Reading = record {
      left = g.S.Source.left c.args.source.now;
      rest = g.S.Source.left c.read_request.new.source;
      faults = g.S.Source.faults c.args.source.now;
      faults' = g.S.Source.faults c.read_request.new.source;
    }
    in
    err_carried c.from_residual.result c.in_err-request.field-0.0 (HasCause words reading) c.from_residual.ensures
    (of_request asks (no_value c.in_err-request.ensures.err))

pub returns-in_err-text-clause-err : goal.returns-in_err-text-clause-err
returns-in_err-text-clause-err g c = λ words asks.
    let reading : Reading = record {
      left = g.S.Source.left c.args.source.now;
      rest = g.S.Source.left c.read_request.new.source;
      faults = g.S.Source.faults c.args.source.now;
      faults' = g.S.Source.faults c.read_request.new.source;
    }
    in
    err_carried c.from_residual-in_err-text.result c.in_err-text.field-0.0 (HasCause words reading) c.from_residual-in_err-text.ensures
    (cause_with_request words reading asks c.in_ok-request.request c.in_ok-request.ensures.request c.in_err-text.field-0.0 c.in_err-text.ensures.none)
