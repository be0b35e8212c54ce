use Rattle.std.proofs.Common.{ap, inl, inr}
use Rattle.run_report.specs.declared.causes.Refusal.TheVariants as refusals
use Rattle.spin_top.specs.Writing.{told_unmade, writing_of}
use Rattle.spin_top.proofs.EndLaws.{told_written}
use Rattle.spin_top.proofs.tops.write_unmade.Goals as goal

pub returns-clause-written : goal.returns-clause-written
returns-clause-written g c = elim c.match-refusal.branch [
  | goal.in-Usage w ↦
      told_written (writing_of g.K.Sink.written g.K.Sink.faults c.args.sink.now)
      c.match-refusal.sink w.write_line.new.sink c.match-refusal.result w.write_line.result
      c.args.refusal refusals.Usage w.write_line.ensures.written
      w.sink-is w.result-is (ap told_unmade w.in-Usage.is)
  | goal.in-ReadFault w ↦
      told_written (writing_of g.K.Sink.written g.K.Sink.faults c.args.sink.now)
      c.match-refusal.sink w.write_line-in-ReadFault.new.sink c.match-refusal.result w.write_line-in-ReadFault.result
      c.args.refusal refusals.ReadFault w.write_line-in-ReadFault.ensures.written
      w.sink-is w.result-is (ap told_unmade w.in-ReadFault.is)
  | goal.in-WriteFault w ↦
      told_written (writing_of g.K.Sink.written g.K.Sink.faults c.args.sink.now)
      c.match-refusal.sink w.write_line-in-WriteFault.new.sink c.match-refusal.result w.write_line-in-WriteFault.result
      c.args.refusal refusals.Memory w.write_line-in-WriteFault.ensures.written
      w.sink-is w.result-is
      (elim w.in-WriteFault.is [
        | inl e ↦ ap told_unmade e
        | inr r ↦ elim r [
          | inl e ↦ ap told_unmade e
          | inr r ↦ elim r [
            | inl e ↦ ap told_unmade e
            | inr r ↦ elim r [
              | inl e ↦ ap told_unmade e.1
              | inr r ↦ elim r [
                | inl e ↦ ap told_unmade e.1
                | inr r ↦ elim r [
                  | inl e ↦ ap told_unmade e.1
                  | inr r ↦ elim r [ inl e ↦ ap told_unmade e.2 | inr r ↦ elim r [ inl e ↦ ap told_unmade e.2 | inr e ↦ ap told_unmade e ] ]
                ]
              ]
            ]
          ]
        ]
      ])
]
