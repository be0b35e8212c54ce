-- The tables that were made, or why there are none.
use Rattle.std.proofs.Common.{refl}
use Rattle.spin_input.specs.Inputs.{Reading}
use Rattle.spin_input.proofs.JobBytes.{err_carried}
use Rattle.tables_top.specs.Ending.{HasNoTables, has_no_input, has_no_memory}
use Rattle.tables_top.proofs.tops.made_of.Goals as goal

pub returns-in-Ok-clause-made : goal.returns-in-Ok-clause-made
returns-in-Ok-clause-made g c = record { input = c.in_ok-input.input; read = c.in_ok-input.ensures.input; shorter = c.in-Ok.ensures.tables; is = c.in-Ok.ensures.text }

pub returns-clause-err : goal.returns-clause-err
returns-clause-err g c = has_no_memory c.in_ok-input.input c.in_ok-input.ensures.input refl

pub returns-in_err-input-clause-err : goal.returns-in_err-input-clause-err
returns-in_err-input-clause-err g c =
    let reading : Reading = record {
      left = g.S.Source.left c.args.source.now;
      rest = g.S.Source.left c.read_input.new.source;
      faults = g.S.Source.faults c.args.source.now;
      faults' = g.S.Source.faults c.read_input.new.source;
    }
    in
    err_carried c.from_residual.result c.in_err-input.field-0.0 (HasNoTables reading) c.from_residual.ensures (has_no_input c.in_err-input.ensures.err)
