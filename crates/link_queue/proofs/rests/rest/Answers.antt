use Rattle.std.proofs.Common.{arith, ◌≡◌, true, ap, ◌∙◌, subst}
use Rattle.crossbeam_queue.specs.Passes.{view}
use Rattle.link_queue.specs.{declared.known.Known.Known, Ends.cap_of, Ends.sending, Ends.taking, Steps.joined, Steps.renewed, Steps.sender_of, Steps.receiver_of, Steps.Balanced}
use Rattle.link_queue.proofs.StepLemmas.{joins, balanced, renews, rested}
use Rattle.link_queue.proofs.rests.rest.Goals as goal

pub absorb-requires-clause-rule : goal.absorb-requires-clause-rule
absorb-requires-clause-rule g c = joins _ _ _ _ c.args.lent.sends.sends c.args.lent.takes.takes

pub len_as-held-requires-clause-rule : goal.len_as-held-requires-clause-rule
len_as-held-requires-clause-rule g c =
    let is = c.absorb.ensures.rule in
    let takes : (view c.absorb.new.pass).takes ≡ true = ap (λ (v : Known). v.takes) is in
    let sends : (view c.absorb.new.pass).sends ≡ true = ap (λ (v : Known). v.sends) is ∙ c.args.lent.sends.sends in
    balanced _ _ takes sends

pub another-taker-requires-clause-rule : goal.another-taker-requires-clause-rule
another-taker-requires-clause-rule g c = grind (arith, renews)

pub returns-clause-rests : goal.returns-clause-rests
returns-clause-rests g c =
    let v = sending c.args.lent.tx in
    let w = taking c.args.lent.rx in
    let seen = c.len_as-held.ensures.rule in
    let is : view c.len_as-held.new.pass ≡ joined v w = c.len_as-held.ensures.queue.1 ∙ c.absorb.ensures.rule in
    let both : Balanced (joined v w) seen.1.0 = subst (λ (u : Known). Balanced u seen.1.0) c.absorb.ensures.rule seen.1.2 in
    rested (cap_of c.args.lent.link.now) c.len_as-held.result v w (view c.another-taker.new.pass) (view c.another-taker.result) seen.1.0 c.args.lent.sends.cap both seen.1.1 seen.0
    (c.another-taker.ensures.rule.0 ∙ ap (λ (u : Known). sender_of (renewed u)) is) (c.another-taker.ensures.rule.1 ∙ ap (λ (u : Known). receiver_of (renewed u)) is)
