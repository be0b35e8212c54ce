use Rattle.run_report.proofs.Gathering.{events_more}
use Rattle.run_report.proofs.texts.put_events.Goals as goal

pub loop-before-preserved : goal.loop-before-preserved
loop-before-preserved c = record {
  lines = events_more c.args.answers.now c.loop-before.before _ c.args.text.now.items c.loop-before.text.items c.put_event.new.text.items
      c.loop-before-test.true c.loop-before.invariant.lines c.in_ok-put_event.ensures;
  front = c.advance.ensures;
}
