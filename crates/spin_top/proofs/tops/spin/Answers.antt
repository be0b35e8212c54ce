-- All clauses follow from how the call ends.
use Rattle.std.proofs.Common.{Option, Some, refl, sym, subst, inl, inr}
use Rattle.app_loads.specs.Host.{Host}
use Rattle.spin_words.specs.Commands.{texts_of}
use Rattle.run_report.specs.Refusals.{line_of}
use Rattle.run_report.specs.declared.causes.Refusal.TheVariants as refusals
use Rattle.spin_input.specs.Inputs.{Reading}
use Rattle.spin_jobs.specs.declared.outcomes.Parts.{Parts}
use Rattle.spin_top.specs.{Causes.no_memory, Ends.Ends, Ends.made, Ends.refused, Made.IsMade, Writing.IsWritten, Writing.Writing}
use Rattle.spin_top.proofs.EndLaws.{apps_clause, check_clause, complete_clause, exact_clause, generated_clause, ledger_clause, made_or_unmade, names_clause, plan_clause, read_as_asked}
use Rattle.spin_top.proofs.EndLaws.{reinject_clause, run_clause, told_command, trace_clause}
use Rattle.spin_top.proofs.tops.spin.Goals as goal

pub returns-in-Ok : goal.returns-in-Ok
returns-in-Ok g c =
    let reading : Reading = record {
      left = g.S.Source.left c.args.source.now;
      rest = g.S.Source.left c.made_of.new.source;
      faults = g.S.Source.faults c.args.source.now;
      faults' = g.S.Source.faults c.made_of.new.source;
    }
    in
    let writing : Writing = record {
      written = g.K.Sink.written c.args.sink.now;
      written' = g.K.Sink.written c.write_text.new.sink;
      faults = g.K.Sink.faults c.args.sink.now;
      faults' = g.K.Sink.faults c.write_text.new.sink;
    }
    in
    let status = c.write_text.ensures.status in
    let ends : Ends (texts_of c.args.words.now) reading writing c.write_text.result =
    made c.in-Ok.made.text
    (subst (λ (p : Parts). IsMade (texts_of c.args.words.now) reading p c.write_text.result.apps c.in-Ok.made.text) (sym c.write_text.ensures.parts)
    (subst (λ (a : Option Host). IsMade (texts_of c.args.words.now) reading c.in-Ok.made.parts a c.in-Ok.made.text) (sym c.write_text.ensures.apps) c.in-Ok.ensures.made))
    c.write_text.ensures.written
    in
    record {
      status = status;
      ends = ends;
      names = names_clause ends;
      plan = plan_clause ends;
      ledger = ledger_clause ends;
      run = run_clause ends;
      reinject = reinject_clause ends;
      trace = trace_clause ends;
      generated = λ n asked. generated_clause ends status n asked;
      checked = λ asked. check_clause ends status asked;
      apps = λ asked. apps_clause ends status asked;
      exact = exact_clause ends;
      complete = λ answer quiet_source quiet_sink. complete_clause ends answer quiet_source status quiet_sink;
    }

pub returns-in-Err : goal.returns-in-Err
returns-in-Err g c =
    let reading : Reading = record {
      left = g.S.Source.left c.args.source.now;
      rest = g.S.Source.left c.made_of.new.source;
      faults = g.S.Source.faults c.args.source.now;
      faults' = g.S.Source.faults c.made_of.new.source;
    }
    in
    let cause = c.in-Err.ensures.err in
    let writing : Writing = record {
      written = g.K.Sink.written c.args.sink.now;
      written' = g.K.Sink.written c.write_refusal.new.sink;
      faults = g.K.Sink.faults c.args.sink.now;
      faults' = g.K.Sink.faults c.write_refusal.new.sink;
    }
    in
    let status = c.write_refusal.ensures.status in
    let written = made_or_unmade c.line_of-line.result c.in-Err.refusal (λ r. IsWritten writing (line_of r) (Some r) c.write_refusal.result.refusal) c.write_refusal.ensures.written in
    let ends : Ends (texts_of c.args.words.now) reading writing c.write_refusal.result =
    elim written [
      | inl line ↦ refused c.in-Err.refusal cause c.write_refusal.ensures.parts c.write_refusal.ensures.apps line
      | inr line ↦ refused refusals.Memory
          (no_memory (told_command (texts_of c.args.words.now) reading c.in-Err.refusal cause line.0) (read_as_asked (texts_of c.args.words.now) reading c.in-Err.refusal cause line.0) refl)
          c.write_refusal.ensures.parts c.write_refusal.ensures.apps line.1
    ]
    in
    record {
      status = status;
      ends = ends;
      names = names_clause ends;
      plan = plan_clause ends;
      ledger = ledger_clause ends;
      run = run_clause ends;
      reinject = reinject_clause ends;
      trace = trace_clause ends;
      generated = λ n asked. generated_clause ends status n asked;
      checked = λ asked. check_clause ends status asked;
      apps = λ asked. apps_clause ends status asked;
      exact = exact_clause ends;
      complete = λ answer quiet_source quiet_sink. complete_clause ends answer quiet_source status quiet_sink;
    }
