use Rattle.key_alloc.proofs.Common.{Block, IsNonDecreasingBy-from_sort, answers_always, arith, get_or, key_small, rules, ◌-◌}
use Rattle.key_alloc.proofs.fixed.sort_downwards.Goals as goal

pub returns-clause-downwards : goal.returns-clause-downwards
returns-clause-downwards c i j d less inside =
    let blocks = c.sort_by_key.new.self.items in
    let up = IsNonDecreasingBy-from_sort (λ (b : Block). 4294967295 - b.key) blocks (c.in_ok-sort_by_key.ensures.sorted (λ (b : Block). 4294967295 - b.key) (answers_always _ _ _ (λ f a r g h. search rules))) in
    omega (arith, up i j d (omega (arith, less)) inside, key_small (get_or blocks j d))
