use Rattle.app_loads.proofs.Common.{arith, AreKeyed, AreServed, AreServedAlways, AreTaken, AreTakenAlways, Claim, List, Range, claims_of, length, subst, sym, ◌∙◌}
use Rattle.app_loads.proofs.Served.{can_serve, keyed_from}
use Rattle.app_loads.proofs.loads.serve.Goals as goal

pub app_of-requires : goal.app_of-requires
app_of-requires c =
    let own = c.requires.regions in
    let served = subst (λ (l : List Claim). AreServed c.args.machine.now own.taken l c.in-Ok-take_all.ranges.items) (c.deref.ensures.value ∙ c.in-Ok.ensures.claims)
    (c.in-Ok-take_all.ensures.served own.taken own.apart own.free) in
    subst (λ (l : List Claim). AreKeyed l c.deref-3.result.now (length c.args.plan.now.nets)) (sym (c.deref-2.ensures.value ∙ c.in-Ok.ensures.claims))
    (subst (λ (l : List Range). AreKeyed (claims_of c.args.machine.now c.args.plan.now) l (length c.args.plan.now.nets)) (sym c.deref-3.ensures.value)
    (keyed_from c.args.machine.now c.args.plan.now c.requires.plan own.taken c.in-Ok-take_all.ranges.items served))

pub returns-in-Ok-app_of-clause-served : goal.returns-in-Ok-app_of-clause-served
returns-in-Ok-app_of-clause-served c =
    let made = c.in-Ok-app_of.ensures in
    let claims = c.deref-2.ensures.value ∙ c.in-Ok.ensures.claims in
    let ranges = made.ranges ∙ c.deref-3.ensures.value in
    record {
      number_is = made.number;
      plan_is = made.plan;
      first_is = made.first;
      served = subst (λ (l : List Range). AreServedAlways c.args.machine.now (claims_of c.args.machine.now c.args.plan.now) c.args.regions.now l) (sym ranges)
          (subst (λ (l : List Claim). AreServedAlways c.args.machine.now l c.args.regions.now c.in-Ok-take_all.ranges.items) (c.deref.ensures.value ∙ c.in-Ok.ensures.claims)
          c.in-Ok-take_all.ensures.served);
      taken = subst (λ (l : List Range). AreTakenAlways c.args.machine.now c.args.regions.now l c.take_all.new.regions) (sym ranges) c.in-Ok-take_all.ensures.taken;
      blocks = grind arith;
    }

pub returns-clause-back : goal.returns-clause-back
returns-clause-back c taken apart free =
    c.give_all.ensures.free c.args.machine.now taken
    (subst (λ (l : List Range). AreTaken c.args.machine.now taken l c.take_all.new.regions) (sym c.deref-in-Err-app_of.ensures.value) (c.in-Ok-take_all.ensures.taken taken apart free))

pub take_all-requires : goal.take_all-requires
take_all-requires c =
    grind (arith, can_serve c.args.machine.now c.args.plan.now c.args.regions.now c.deref.result.now c.requires.plan c.requires.regions (c.deref.ensures.value ∙ c.in-Ok.ensures.claims))
