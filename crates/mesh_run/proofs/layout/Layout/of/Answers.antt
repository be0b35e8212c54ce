use Rattle.mesh_run.proofs.Common.{AreHomesOf, State, ap, arith, length, subst}
use Rattle.mesh_run.proofs.PlanLaws.{few_homes}
use Rattle.mesh_run.proofs.layout.Layout.of.Goals as goal

pub cuts_of-requires : goal.cuts_of-requires
cuts_of-requires c =
    let homes = c.in_ok-homes.homes.items in
    let few = few_homes c.args.parts.now c.deref-2.result.now homes c.requires (subst (λ (s : State). AreHomesOf s.setup c.deref-2.result.now homes) c.parts.view_is c.in_ok-homes.ensures) in
    omega (arith, few, ap length c.deref-3.ensures.value)

pub returns : goal.returns
returns c = grind arith
