use Rattle.run_report.proofs.Common.{answers_always, rules, wait_numbers}
use Rattle.run_report.proofs.Sorting.{in_order_of_five}
use Rattle.run_report.proofs.waits.sort_waits.Goals as goal

pub returns : goal.returns
returns c =
    in_order_of_five wait_numbers _ _ c.sort_by_key.ensures.permutation
    (c.in_ok-sort_by_key.ensures.sorted wait_numbers (answers_always _ _ _ (λ f a r g h. search rules)))
    (c.sort_by_key.ensures.stable wait_numbers (answers_always _ _ _ (λ f a r g h. search rules)))
