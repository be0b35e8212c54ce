use Rattle.run_report.proofs.Common.{take, waits_at, ◌++◌, ◌≡◌}
use Rattle.run_report.proofs.waits.put_copies.Given as goal

abbrev pub invariant-loop-copy : goal.invariant-loop-copy
invariant-loop-copy l = l.waiting.items ≡ l.fn.waiting.items ++ waits_at l.place (take l.copy-index l.copies)
