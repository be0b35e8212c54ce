use Rattle.std.proofs.Common.{rules, arith, ap, sym, subst, ◌∙◌}
use Rattle.link_queue.specs.{declared.known.Known.Known, Steps.Balanced}
use Rattle.link_queue.proofs.StepLemmas.{all_popped, balanced, empties, joins, some_left}
use Rattle.link_queue.proofs.ups.link_down.Goals as goal

pub absorb-requires-clause-rule : goal.absorb-requires-clause-rule
absorb-requires-clause-rule g c = joins _ _ _ _ c.args.whole.sends.sends c.args.whole.takes.takes

pub len_as-held-requires-clause-rule : goal.len_as-held-requires-clause-rule
len_as-held-requires-clause-rule g c =
    let is = c.absorb.ensures.rule in
    balanced _ _ (ap (λ (v : Known). v.takes) is) (ap (λ (v : Known). v.sends) is ∙ c.args.whole.sends.sends)

pub pop_as-requires-clause-rule : goal.pop_as-requires-clause-rule
pop_as-requires-clause-rule g c = search (rules, empties, balanced)

pub learn_as-requires-clause-rule : goal.learn_as-requires-clause-rule
learn_as-requires-clause-rule g c = let p = c.loop.invariant.1 in balanced _ _ p.takes p.sends

pub unreachable-requires : goal.unreachable-requires
unreachable-requires g c =
    let seen = c.len_as-held.ensures in
    let r = c.in-None.ensures.rule in
    let inv = c.loop.invariant in
    let first = subst (λ (u : Known). Balanced u seen.rule.1.0) (sym seen.queue.1) seen.rule.1.2 in
    some_left _ _ _ _ _ first inv.1 r.1.2 (omega (arith, inv.2, seen.rule.1.1)) r.1.1

pub returns-clause-held : goal.returns-clause-held
returns-clause-held g c = grind (arith, all_popped)
