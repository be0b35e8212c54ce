use Rattle.key_alloc.proofs.Common.{IsOpenPlace, arith, rules, subst}
use Rattle.key_alloc.proofs.{Sizes.size_from_half, Sizes.size_within, Sizes.one_size, Taking.block_from_least}
use Rattle.key_alloc.proofs.alloc.least_block.Goals as goal

pub invariant_of-wanted : goal.invariant_of-wanted
invariant_of-wanted c = search (rules, size_within, size_from_half)

pub returns-in_default-clause-none : goal.returns-in_default-clause-none
returns-in_default-clause-none c taken state size place is =
    let made = c.next_power_of_two-size.ensures in
    let mine = size_from_half c.args.needed.keys _ c.args.needed.some made.power made.lower_bound made.upper_bound in
    let none = rw c.in_default.is at c.in_ok-place.ensures.none in
    λ may. none taken state place (subst (λ s. IsOpenPlace taken s place) (one_size c.args.needed.keys size _ is mine) may)

pub block_of-requires-clause-fits : goal.block_of-requires-clause-fits
block_of-requires-clause-fits c = grind (arith, size_within, size_from_half)

pub block_of-requires-clause-aligned : goal.block_of-requires-clause-aligned
block_of-requires-clause-aligned c =
    let least = rw c.in-Some.is at c.in_ok-place.ensures.least in
    (least c.requires.0 c.requires.1).may.aligned

pub returns-clause-least : goal.returns-clause-least
returns-clause-least c taken state =
    let made = c.next_power_of_two-size.ensures in
    let mine = size_from_half c.args.needed.keys _ c.args.needed.some made.power made.lower_bound made.upper_bound in
    let least = rw c.in-Some.is at c.in_ok-place.ensures.least in
    block_from_least taken c.args.needed.keys c.next_power_of_two-size.result c.in-Some.place c.block_of.result mine c.block_of.ensures.key (omega (arith, c.block_of.ensures.mask)) (least taken state)

pub returns-clause-free : goal.returns-clause-free
returns-clause-free c taken state =
    let free = rw c.in-Some.is at c.in_ok-place.ensures.free in
    free taken state c.block_of.result c.block_of.ensures.key (omega (arith, c.block_of.ensures.mask))
