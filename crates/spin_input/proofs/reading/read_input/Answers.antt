use Rattle.std.proofs.Common.{arith, ◌≡◌, ◌⊎◌, Err, ap, ◌∙◌, sym, inl, inr}
use Rattle.job_text.specs.Json.{json_of}
use Rattle.run_report.specs.declared.causes.Refusal.{Refusal}
use Rattle.run_report.specs.declared.causes.Refusal.TheVariants as refusals
use Rattle.spin_input.specs.{Inputs.Reading, Inputs.HasNoFault, Inputs.HasNoInput, Inputs.not_read_as, Inputs.no_memory, Kinds.input_of, Kinds.input_from, Kinds.input_in}
use Rattle.std.proofs.lemmas.Result.{IfErr-weaker, IfOk-weaker}
use Rattle.spin_input.proofs.JobBytes.{input_in-few, read_quiet, unread_input}
use Rattle.spin_input.proofs.reading.read_input.Goals as goal

pub returns-in-Ok-clause-input : goal.returns-in-Ok-clause-input
returns-in-Ok-clause-input g c = grind (arith, read_quiet, input_in-few, IfOk-weaker)

pub returns-in-Ok-clause-err : goal.returns-in-Ok-clause-err
returns-in-Ok-clause-err g c =
    let kind = input_of g.I.Input.faults g.I.Input.value_of in
    let reading : Reading = record {
      left = g.S.Source.left c.args.source.now;
      rest = g.S.Source.left c.read_all.new.src;
      faults = g.S.Source.faults c.args.source.now;
      faults' = g.S.Source.faults c.read_all.new.src;
    }
    in
    let quiet : HasNoFault reading = read_quiet c.in-Ok.bytes reading c.in-Ok.ensures.no_fault in
    let same : input_in kind c.in-Ok.bytes ≡ input_from kind (json_of c.as_slice.result.now) =
    input_in-few kind c.in-Ok.bytes c.in-Ok.ensures.within ∙ ap (λ b. input_from kind (json_of b)) (sym c.as_slice.ensures)
    in
    IfErr-weaker c.input_of_text.result (λ (r : Refusal). (input_from kind (json_of c.as_slice.result.now) ≡ Err r) ⊎ (r ≡ refusals.Memory)) (HasNoInput (input_in kind) reading)
    (λ r why. elim why [
      | inl is ↦ not_read_as c.in-Ok.bytes c.in-Ok.ensures.all quiet (same ∙ is)
      | inr memory ↦ no_memory (c.in-Ok.bytes, c.in-Ok.ensures.all.gives, c.in-Ok.ensures.within) quiet memory
    ])
    c.input_of_text.ensures.err

pub returns-in-Err-clause-err : goal.returns-in-Err-clause-err
returns-in-Err-clause-err g c = grind (arith, unread_input)
