use Rattle.spin_apps.proofs.Common.{Host, IfOk, IsTaken, IsWith, List, Spot, free_but, free_machine, subst, sym}
use Rattle.spin_apps.proofs.{Keeping.with_spots, Serving.free_after_refusal}
use Rattle.spin_apps.proofs.hosts.take.Goals as goal

pub returns-in-Err-clause-taken : goal.returns-in-Err-clause-taken
returns-in-Err-clause-taken c =
    let old = c.args.apps.now in
    subst (λ (h : Host). IfOk c.refused.result (λ a. IsTaken old c.args.number c.args.plan.now a h)) (sym c.in-Err.ensures.refused)
    (c.refused.ensures old c.args.number c.args.plan.now c.in-Err.ensures.why)

pub returns-in-Err-clause-free : goal.returns-in-Err-clause-free
returns-in-Err-clause-free c =
    let old = c.args.apps.now in
    let spots = c.args.plan.now.spots in
    free_after_refusal old c.load.new.self c.give.new.self c.in-Err.ensures.refused
    (c.give.ensures (free_but old spots) (free_machine old) c.requires.taken
    (subst (λ (l : List Spot). IsWith l (free_but old spots) (free_machine old)) (sym c.as_slice.ensures) (with_spots old spots c.requires.usable)))
