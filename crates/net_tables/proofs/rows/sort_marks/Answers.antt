use Rattle.net_tables.proofs.Common.{answers_always, mark_numbers, rules}
use Rattle.net_tables.proofs.Ordering.{sorted_marks}
use Rattle.net_tables.proofs.rows.sort_marks.Goals as goal

pub returns-in_ok-sort_by_key-clause-in_order : goal.returns-in_ok-sort_by_key-clause-in_order
returns-in_ok-sort_by_key-clause-in_order c =
    sorted_marks _ (c.in_ok-sort_by_key.ensures.sorted mark_numbers (answers_always _ _ _ (λ f a r g h. search rules)))

pub returns-else-not-stand_in_order-clause-in_order : goal.returns-else-not-stand_in_order-clause-in_order
returns-else-not-stand_in_order-clause-in_order c = rw c.deref.ensures.value at c.stand_in_order.ensures c.if-not-stand_in_order.false
