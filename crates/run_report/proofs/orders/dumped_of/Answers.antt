use Rattle.run_report.proofs.Common.{DumpRec, IsSortedStably, List, answers_always, dump_key, dump_numbers, rules, subst, sym, ◌∙◌}
use Rattle.run_report.proofs.Sorting.{in_order_of_four}
use Rattle.run_report.proofs.orders.dumped_of.Goals as goal

pub returns : goal.returns
returns c =
    let in_order =
    in_order_of_four dump_numbers _ _ c.sort_by_key.ensures.permutation
    (c.in_ok-sort_by_key.ensures.sorted dump_numbers (answers_always _ _ _ (λ f a r g h. search rules)))
    (c.sort_by_key.ensures.stable dump_numbers (answers_always _ _ _ (λ f a r g h. search rules)))
    in
    subst (λ (after : List DumpRec). IsSortedStably dump_key c.args.mesh.now.dumped after) (sym c.from_vec.ensures)
    (subst (λ (before : List DumpRec). IsSortedStably dump_key before c.sort_by_key.new.self.items) (c.in_ok-sorted.ensures.items ∙ c.dumped.ensures) in_order)
