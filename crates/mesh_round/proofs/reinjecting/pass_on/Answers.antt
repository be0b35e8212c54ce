-- After rounds the first dumped copy goes back, so each pass leaves less to be done, until no record is left.
use Rattle.mesh_round.proofs.Common.{HasPasses, HasRounds, IfErr, IfErr-weaker, IsLayoutOf, IsMesh, MeshOnLayout, Setup, State, ap, arith, length, rules, subst, sym, ℕ, ◌<◌, ◌∙◌}
use Rattle.mesh_round.proofs.{FirstBack.first_goes_back, Passes.passes_keep_mesh, Passes.passes_then, Passes.rounds_pass, Passes.rounds_no_more}
use Rattle.mesh_round.proofs.reinjecting.pass_on.Goals as goal

pub returns-in_err-parts-clause-refused : goal.returns-in_err-parts-clause-refused
returns-in_err-parts-clause-refused g c = grind (arith, IfErr-weaker, rounds_pass)

pub passes-init : goal.passes-init
passes-init g c = grind (arith, rounds_pass c.args.pace.patience c.args.pace.turns c.args.laid.mesh c.in_ok-parts.parts c.in_ok-parts.ensures.rounds.rounds)

pub returns-in_err-filled-clause-refused : goal.returns-in_err-filled-clause-refused
returns-in_err-filled-clause-refused g c = grind (arith, IfErr-weaker, passes_then)

pub invariant_of-refilled : goal.invariant_of-refilled
invariant_of-refilled g c =
    let mesh = subst IsMesh (ap (λ (l : MeshOnLayout). l.mesh) c.laid.view_is) c.laid.invariant.ready.mesh in
    let p : ℕ = c.args.pace.patience in
    let t : ℕ = c.args.pace.turns in
    let filled : State = c.in_ok-filled.filled in
    let back : HasPasses p t c.args.laid.mesh filled = passes_then p t c.args.laid.mesh c.passes.parts filled c.passes.invariant.passes (c.in_ok-filled.ensures.passes p t) in
    record {
      ready = c.in_ok-filled.ensures.ready;
      layout = subst (λ (u : Setup). IsLayoutOf u c.laid.inside.layout.now)
          (ap (λ (l : MeshOnLayout). l.mesh.setup) c.laid.view_is ∙ sym (passes_keep_mesh p t c.args.laid.mesh filled mesh back).1) c.laid.invariant.layout;
    }

pub returns-in_err-parts-2-clause-refused : goal.returns-in_err-parts-2-clause-refused
returns-in_err-parts-2-clause-refused g c =
    let p : ℕ = c.args.pace.patience in
    let t : ℕ = c.args.pace.turns in
    let filled : State = c.in_ok-filled.filled in
    let back : HasPasses p t c.args.laid.mesh filled = passes_then p t c.args.laid.mesh c.passes.parts filled c.passes.invariant.passes (c.in_ok-filled.ensures.passes p t) in
    let was : IfErr c.from_residual-in_err-parts-2.result (λ b. HasRounds p t filled b.0) = search rules in
    IfErr-weaker c.from_residual-in_err-parts-2.result (λ b. HasRounds p t filled b.0) (λ b. HasPasses p t c.args.laid.mesh b.0)
    (λ b rounds. passes_then p t c.args.laid.mesh filled b.0 back (rounds_pass p t filled b.0 rounds)) was

pub passes-smaller : goal.passes-smaller
passes-smaller g c =
    let mesh = subst IsMesh (ap (λ (l : MeshOnLayout). l.mesh) c.laid.view_is) c.laid.invariant.ready.mesh in
    let p : ℕ = c.args.pace.patience in
    let t : ℕ = c.args.pace.turns in
    let m : State = c.passes.parts in
    let filled : State = c.in_ok-filled.filled in
    let job = c.requires.ledger in
    let kept = c.passes_keep_the_ledger.ensures.of_nets p t c.args.laid.mesh m job.0 job.1 mesh job.2 job.3 c.passes.invariant.passes in
    let some : 0 < length m.dumped = subst (λ (s : State). 0 < length s.dumped) c.parts.view_is (omega (arith, c.len.ensures, c.passes-test.true)) in
    let less = c.in_ok-filled.ensures.less (first_goes_back m c.passes.invariant.ready.mesh job.0 job.1 kept c.passes.invariant.at_rest (λ none. let no = ap length none in omega (arith, some, no))) in
    let no_more = rounds_no_more c.a_round_leaves_less_to_do.ensures.no_more p t filled c.in_ok-parts-2.parts c.in_ok-filled.ensures.ready.mesh c.in_ok-parts-2.ensures.rounds.rounds in
    omega (arith, less, no_more)

pub passes-preserved : goal.passes-preserved
passes-preserved g c =
    let p : ℕ = c.args.pace.patience in
    let t : ℕ = c.args.pace.turns in
    let filled : State = c.in_ok-filled.filled in
    let n : State = c.in_ok-parts-2.parts in
    let back = passes_then p t c.args.laid.mesh c.passes.parts filled c.passes.invariant.passes (c.in_ok-filled.ensures.passes p t) in
    record {
      passes = passes_then p t c.args.laid.mesh filled n back (rounds_pass p t filled n c.in_ok-parts-2.ensures.rounds.rounds);
      ready = c.in_ok-parts-2.ensures.ready;
      at_rest = c.in_ok-parts-2.ensures.at_rest;
    }
