use Rattle.run_report.proofs.Common.{Delivery, IsSortedStably, List, answers_always, ap, delivery_key, delivery_numbers, map, named_delivery, refl, rules, subst, ◌∙◌}
use Rattle.run_report.proofs.Sorting.{in_order_of_two}
use Rattle.run_report.proofs.reports.report_of.Goals as goal

pub returns : goal.returns
returns c =
    let sorted = c.sort_by_key.new.self.items in
    let in_order =
    in_order_of_two delivery_numbers _ _ c.sort_by_key.ensures.permutation
    (c.in_ok-sort_by_key.ensures.sorted delivery_numbers (answers_always _ _ _ (λ f a r g h. search rules)))
    (c.sort_by_key.ensures.stable delivery_numbers (answers_always _ _ _ (λ f a r g h. search rules)))
    in
    record {
      same_placed = c.in_ok-placed.ensures;
      same_keys = c.in_ok-keys.ensures;
      same_tables = refl;
      same_did = refl;
      delivered = record {
        sorted = sorted;
        in_order = subst (λ (before : List Delivery). IsSortedStably delivery_key before sorted) (c.in_ok-sorted.ensures.items ∙ c.delivered.ensures) in_order;
        named_each = ap (λ placed. map (named_delivery placed) sorted) c.in_ok-named.ensures;
      };
      dumped = c.in_ok-dumped.ensures;
      waiting = c.in_ok-waiting.ensures;
      unsent = c.unsent_of-unsent.ensures;
    }
