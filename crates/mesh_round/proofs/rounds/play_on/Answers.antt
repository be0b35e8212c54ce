-- One round: a copy moved in it; or none did, and then there was none.
use Rattle.mesh_round.proofs.Common.{IfOk, IsRaisedFrom, LeadsByRound, MayGoOn, PlaysTo, State, false, refl, subst, sym, true, ◌≡◌}
use Rattle.mesh_round.proofs.{Played.answers, Played.at_pace, Played.leads, Played.leads_at_rest, Played.ready_after, Played.refuses, Played.stood_still, rounds.play_on.Given.Over}
use Rattle.mesh_round.proofs.rounds.play_on.Goals.{In-Ok-false, In-Ok-true}
use Rattle.mesh_round.proofs.rounds.play_on.Goals as goal

-- ---- no memory

pub lower-requires : goal.lower-requires
lower-requires g c = (c.laid.inside.parts, c.laid.invariant.ready.mesh, c.in-Err.ensures.back c.laid.inside.parts c.laid.invariant.ready.mesh c.in_ok-raised.ensures.raised)

pub returns-in-Err-clause-back : goal.returns-in-Err-clause-back
returns-in-Err-clause-back g c =
    rw (← c.laid.view_is) (c.lower.ensures c.laid.inside.parts c.laid.invariant.ready.mesh (c.in-Err.ensures.back c.laid.inside.parts c.laid.invariant.ready.mesh c.in_ok-raised.ensures.raised))

-- ---- a copy moved

-- where the round led, that the mesh may go on there, and that it was a round
abbrev Moved : (g : Over) → In-Ok-true g → Type 0
Moved g c =
    let p = c.args.pace in
    (to : PlaysTo p.patience p.turns c.laid.inside.parts true c.play.new.self) × MayGoOn to.mesh × LeadsByRound p.patience p.turns c.laid.inside.parts to.mesh

moved : (g : Over) (c : In-Ok-true g) → Moved g c
moved g c =
    let p = c.args.pace in
    let r = c.in_ok-raised.raised in
    let e = c.in_ok-raised.ensures in
    let to = at_pace p r.pace c.laid.inside.parts r c.play.new.self c.in-Ok-true.field-0 true c.laid.invariant.ready.mesh e.raised e.pace c.in-Ok-true.field-0-test c.in-Ok-true.ensures.played in
    let ready = c.laid.invariant.ready in (
      to,
      ready_after p.patience p.turns c.laid.inside.parts to.mesh to.items ready to.played,
      leads p.patience p.turns c.laid.inside.parts to.mesh to.items ready to.played to.noted,
    )

pub lower-requires-in-Ok-true : goal.lower-requires-in-Ok-true
lower-requires-in-Ok-true g c = let m = moved g (goal.at.lower-requires-in-Ok-true g c).In-Ok-true in (m.0.mesh, m.1.mesh, m.0.raised)

pub returns-in-Ok-true-clause-round : goal.returns-in-Ok-true-clause-round
returns-in-Ok-true-clause-round g c =
    rw (← c.laid.view_is)
    let m = moved g (goal.at.returns-in-Ok-true-clause-round g c).In-Ok-true in
    subst (LeadsByRound c.args.pace.patience c.args.pace.turns c.laid.inside.parts) (sym (c.lower-in-Ok-true.ensures m.0.mesh m.1.mesh m.0.raised)) m.2

pub returns-in-Ok-true-clause-ready : goal.returns-in-Ok-true-clause-ready
returns-in-Ok-true-clause-ready g c =
    let m = moved g (goal.at.returns-in-Ok-true-clause-ready g c).In-Ok-true in
    subst MayGoOn (sym (c.lower-in-Ok-true.ensures m.0.mesh m.1.mesh m.0.raised)) m.1

-- ---- none did

-- what the round was, and that the mesh stands as it was
abbrev Stood : (g : Over) → In-Ok-false g → Type 0
Stood g c = PlaysTo c.args.pace.patience c.args.pace.turns c.laid.inside.parts false c.play.new.self × IsRaisedFrom c.laid.inside.parts 0 c.play.new.self

stood : (g : Over) (c : In-Ok-false g) → Stood g c
stood g c =
    let p = c.args.pace in
    let r = c.in_ok-raised.raised in
    let e = c.in_ok-raised.ensures in
    let to = at_pace p r.pace c.laid.inside.parts r c.play.new.self c.in-Ok-false.field-0 false c.laid.invariant.ready.mesh e.raised e.pace c.in-Ok-false.field-0-test c.in-Ok-false.ensures.played in
    (to, stood_still p.patience p.turns c.laid.inside.parts c.play.new.self c.laid.invariant.ready.mesh to)

pub lower-requires-in-Ok-false : goal.lower-requires-in-Ok-false
lower-requires-in-Ok-false g c = (c.laid.inside.parts, c.laid.invariant.ready.mesh, (stood g (goal.at.lower-requires-in-Ok-false g c).In-Ok-false).1)

pub returns-in-Ok-false-clause-round : goal.returns-in-Ok-false-clause-round
returns-in-Ok-false-clause-round g c =
    rw (← c.laid.view_is)
    let p = c.args.pace in
    let s = stood g (goal.at.returns-in-Ok-false-clause-round g c).In-Ok-false in
    let same = c.lower-in-Ok-false.ensures c.laid.inside.parts c.laid.invariant.ready.mesh s.1 in
    leads_at_rest p.patience p.turns c.laid.inside.parts c.play.new.self c.at_rest.result c.laid.invariant.ready s.0
    (subst (λ (m : State). IfOk c.at_rest.result (λ n. n ≡ m)) same c.at_rest.ensures.same) c.at_rest.ensures.none

pub returns-in-Ok-false-clause-ready : goal.returns-in-Ok-false-clause-ready
returns-in-Ok-false-clause-ready g c =
    let s = stood g (goal.at.returns-in-Ok-false-clause-ready g c).In-Ok-false in
    let same = c.lower-in-Ok-false.ensures c.laid.inside.parts c.laid.invariant.ready.mesh s.1 in
    answers MayGoOn c.at_rest.result c.lower-in-Ok-false.result c.laid.inside.parts same c.laid.invariant.ready c.at_rest.ensures.same

pub returns-in-Ok-false-clause-back : goal.returns-in-Ok-false-clause-back
returns-in-Ok-false-clause-back g c =
    rw (← c.laid.view_is)
    let same = c.lower-in-Ok-false.ensures c.laid.inside.parts c.laid.invariant.ready.mesh (stood g (goal.at.returns-in-Ok-false-clause-back g c).In-Ok-false).1 in
    refuses (λ n. n ≡ c.laid.inside.parts) c.at_rest.result c.lower-in-Ok-false.result c.laid.inside.parts same refl c.at_rest.ensures.back
