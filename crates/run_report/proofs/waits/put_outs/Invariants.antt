use Rattle.run_report.proofs.Common.{Hand, map, take, ◌++◌, ◌≡◌}
use Rattle.run_report.proofs.waits.put_outs.Given as goal

abbrev pub invariant-loop-out : goal.invariant-loop-out
invariant-loop-out l = l.waiting.items ≡ l.fn.waiting.items ++ map (λ o. (l.hand.copy.packet, Hand l.chip o)) (take l.out-index l.hand.outs)
