-- Rounds that moved a copy are counted; those that moved none left the mesh as it was.
use Rattle.mesh_round.proofs.Common.{HasMovingRounds, IfErr, IfErr-weaker, MayGoOn, arith, false, none, rules, subst, sym, true, ◌∙◌, ◌≡◌}
use Rattle.mesh_round.proofs.{Played.IsReached, Played.answers, Played.at_pace, Played.begins, Played.moved_on, Played.refuses, Played.rests_where_none, Played.stood_on, rounds.run_on.Given.Over}
use Rattle.mesh_round.proofs.rounds.run_on.Goals.{In-Ok-false}
use Rattle.mesh_round.proofs.rounds.run_on.Goals as goal

pub returns-in_err-raised-clause-refused : goal.returns-in_err-raised-clause-refused
returns-in_err-raised-clause-refused g c =
    rw (← c.laid.view_is)
    let rounds = HasMovingRounds c.args.pace.patience c.args.pace.turns c.laid.inside.parts in
    let was : IfErr c.from_residual.result (λ b. b.0 ≡ c.laid.inside.parts) = search rules in
    IfErr-weaker c.from_residual.result (λ b. b.0 ≡ c.laid.inside.parts) (λ b. rounds b.0)
    (λ b same. subst rounds (sym same) (record { rounds = none; each = tt })) was

pub loop-init : goal.loop-init
loop-init g c = grind (arith, begins c.args.pace.patience c.args.pace.turns c.laid.inside.parts c.in_ok-raised.raised c.laid.invariant.ready c.in_ok-raised.ensures.raised)

pub play-requires-after_bounds : goal.play-requires-after_bounds
play-requires-after_bounds g c κs within = let is = c.loop.invariant.0 in (is.mesh, is.ready.mesh, is.raised)

pub lower-requires : goal.lower-requires
lower-requires g c = let is = c.loop.invariant.0 in (is.mesh, is.ready.mesh, c.in-Err.ensures.back is.mesh is.ready.mesh is.raised)

pub returns-in-Err-clause-refused : goal.returns-in-Err-clause-refused
returns-in-Err-clause-refused g c =
    let is = c.loop.invariant.0 in
    let raised = c.in-Err.ensures.back is.mesh is.ready.mesh is.raised in
    subst (HasMovingRounds c.args.pace.patience c.args.pace.turns c.args.laid.mesh) (sym (c.lower.ensures is.mesh is.ready.mesh raised)) is.rounds

pub returns-in-Err-clause-ready_still : goal.returns-in-Err-clause-ready_still
returns-in-Err-clause-ready_still g c =
    let is = c.loop.invariant.0 in
    subst MayGoOn (sym (c.lower.ensures is.mesh is.ready.mesh (c.in-Err.ensures.back is.mesh is.ready.mesh is.raised))) is.ready

pub loop-preserved-in-Ok-true : goal.loop-preserved-in-Ok-true
loop-preserved-in-Ok-true g c =
    let p = c.args.pace in
    let here = c.loop.invariant in
    let is = here.0 in
    let r = c.loop.raised in
    let to = at_pace p r.pace is.mesh r c.play.new.self c.in-Ok-true.field-0 true is.ready.mesh is.raised here.1 c.in-Ok-true.field-0-test c.in-Ok-true.ensures.played in
    (moved_on p.patience p.turns c.args.laid.mesh r c.play.new.self is to, c.play.ensures.pace ∙ here.1)

-- the mesh in which a round moved no copy
abbrev Stood : (g : Over) → In-Ok-false g → Type 0
Stood g c = IsReached c.args.pace.patience c.args.pace.turns c.args.laid.mesh c.play.new.self

stood : (g : Over) (c : In-Ok-false g) → Stood g c
stood g c =
    let p = c.args.pace in
    let here = c.loop.invariant in
    let is = here.0 in
    let r = c.loop.raised in
    let to = at_pace p r.pace is.mesh r c.play.new.self c.in-Ok-false.field-0 false is.ready.mesh is.raised here.1 c.in-Ok-false.field-0-test c.in-Ok-false.ensures.played in
    stood_on p.patience p.turns c.args.laid.mesh r c.play.new.self is to

pub lower-requires-then-thorough : goal.lower-requires-then-thorough
lower-requires-then-thorough g c = let is = stood g (goal.at.lower-requires-then-thorough g c).In-Ok-false in (is.mesh, is.ready.mesh, is.raised)

pub returns-then-thorough-clause-rounds : goal.returns-then-thorough-clause-rounds
returns-then-thorough-clause-rounds g c =
    let is = stood g (goal.at.returns-then-thorough-clause-rounds g c).In-Ok-false in
    answers (HasMovingRounds c.args.pace.patience c.args.pace.turns c.args.laid.mesh) c.at_rest.result c.lower-then-thorough.result is.mesh
    (c.lower-then-thorough.ensures is.mesh is.ready.mesh is.raised) is.rounds c.at_rest.ensures.same

pub returns-then-thorough-clause-ready : goal.returns-then-thorough-clause-ready
returns-then-thorough-clause-ready g c =
    let is = stood g (goal.at.returns-then-thorough-clause-ready g c).In-Ok-false in
    answers MayGoOn c.at_rest.result c.lower-then-thorough.result is.mesh (c.lower-then-thorough.ensures is.mesh is.ready.mesh is.raised) is.ready c.at_rest.ensures.same

pub returns-then-thorough-clause-at_rest : goal.returns-then-thorough-clause-at_rest
returns-then-thorough-clause-at_rest g c = rests_where_none c.at_rest.result (returns-then-thorough-clause-ready g c) c.at_rest.ensures.none

pub returns-then-thorough-clause-refused : goal.returns-then-thorough-clause-refused
returns-then-thorough-clause-refused g c =
    let is = stood g (goal.at.returns-then-thorough-clause-refused g c).In-Ok-false in
    refuses (HasMovingRounds c.args.pace.patience c.args.pace.turns c.args.laid.mesh) c.at_rest.result c.lower-then-thorough.result is.mesh
    (c.lower-then-thorough.ensures is.mesh is.ready.mesh is.raised) is.rounds c.at_rest.ensures.back

pub returns-then-thorough-clause-ready_still : goal.returns-then-thorough-clause-ready_still
returns-then-thorough-clause-ready_still g c =
    let is = stood g (goal.at.returns-then-thorough-clause-ready_still g c).In-Ok-false in
    refuses MayGoOn c.at_rest.result c.lower-then-thorough.result is.mesh (c.lower-then-thorough.ensures is.mesh is.ready.mesh is.raised) is.ready c.at_rest.ensures.back

pub loop-preserved : goal.loop-preserved
loop-preserved g c = (stood g (goal.at.loop-preserved g c).In-Ok-false, c.play.ensures.pace ∙ c.loop.invariant.1)
