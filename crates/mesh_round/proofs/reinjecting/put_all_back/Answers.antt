-- Each copy that is put back leaves less to be done.
use Rattle.mesh_round.proofs.Common.{HasPasses, MayGoOn, State, arith, inl, inr, put_back, refl, subst, sym, work_in, ◌<◌, ◌∙◌}
use Rattle.mesh_round.specs.Reinjecting.{none}
use Rattle.mesh_round.proofs.{PutBackParts.ready_back, PutBackWork.put_back_lighter, PutBackWork.still_less}
use Rattle.mesh_round.proofs.reinjecting.put_all_back.Goals as goal

pub copies-init : goal.copies-init
copies-init c = record { passes = λ patience turns. none; ready = c.requires.ready; less = inl refl }

pub put_first_back-requires : goal.put_first_back-requires
put_first_back-requires c = c.copies.invariant.ready.mesh

pub returns-in-Idle-clause-passes : goal.returns-in-Idle-clause-passes
returns-in-Idle-clause-passes c = λ patience turns.
    subst (λ (s : State). HasPasses patience turns c.args.parts s) (sym c.in_ok-next.ensures.moves) (put_back c.copies.parts (c.copies.invariant.passes patience turns))

pub returns-in-Idle-clause-ready : goal.returns-in-Idle-clause-ready
returns-in-Idle-clause-ready c = subst MayGoOn (sym c.in_ok-next.ensures.moves) (ready_back c.copies.parts c.copies.invariant.ready)

pub copies-smaller : goal.copies-smaller
copies-smaller c = grind (arith, put_back_lighter c.copies.parts (sym c.in_ok-next.ensures.answer ∙ c.in-Moved.is))

pub copies-preserved : goal.copies-preserved
copies-preserved c =
    let lighter : work_in c.in_ok-next.next < work_in c.copies.parts =
    subst (λ (s : State). work_in s < work_in c.copies.parts) (sym c.in_ok-next.ensures.moves) (put_back_lighter c.copies.parts (sym c.in_ok-next.ensures.answer ∙ c.in-Moved.is)) in
    record {
      passes = λ patience turns.
          subst (λ (s : State). HasPasses patience turns c.args.parts s) (sym c.in_ok-next.ensures.moves) (put_back c.copies.parts (c.copies.invariant.passes patience turns));
      ready = subst MayGoOn (sym c.in_ok-next.ensures.moves) (ready_back c.copies.parts c.copies.invariant.ready);
      less = inr (still_less c.args.parts c.copies.parts c.in_ok-next.next c.copies.invariant.less lighter);
    }
