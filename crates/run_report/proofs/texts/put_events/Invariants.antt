use Rattle.run_report.proofs.Common.{event_front, event_line, gathered, take, ◌++◌, ◌/◌, ◌≡◌}
use Rattle.run_report.proofs.texts.put_events.Given as goal

-- the lines so far are written, and the front is that of the last number
abbrev pub invariant-loop-before : goal.invariant-loop-before
invariant-loop-before l = record {
  lines : l.text.items ≡ l.fn.text.items ++ gathered event_line 1 (take l.before l.answers);
  front : take l.front.len l.front.bytes ≡ event_front (l.before / 10);
}
