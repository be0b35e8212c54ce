use Rattle.run_report.proofs.Common.{flat_map, got_line, named_delivery, take, ◌++◌, ◌≡◌}
use Rattle.run_report.proofs.texts.put_gots.Given as goal

-- the lines so far are written
abbrev pub invariant-loop-delivery : goal.invariant-loop-delivery
invariant-loop-delivery l =
    l.text.items ≡ l.fn.text.items ++ flat_map (λ d. got_line (named_delivery l.placed d)) (take l.delivery-index l.deliveries)
