-- Where no layout is made, there was no pass.
use Rattle.mesh_round.proofs.Common.{HasPasses, subst, sym, ◌∙◌}
use Rattle.mesh_round.specs.Reinjecting.{none}
use Rattle.mesh_round.proofs.reinjecting.reinject.Goals as goal

pub returns-in-Err-clause-refused : goal.returns-in-Err-clause-refused
returns-in-Err-clause-refused g c =
    let p = c.args.pace in
    subst (HasPasses p.patience p.turns c.args.mesh) (sym (c.put_together.ensures ∙ c.take_apart-parts.ensures.parts)) none
