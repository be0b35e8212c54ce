use Rattle.mesh_run.proofs.Common.{Home, List, MovesIn, State, ap, subst, ◌+◌, ◌∙◌}
use Rattle.mesh_run.proofs.Raising.{raised_in}
use Rattle.mesh_run.proofs.raised.RaisedMesh.raise.Goals as goal

pub returns-in-Ok-clause-raised : goal.returns-in-Ok-clause-raised
returns-in-Ok-clause-raised g c =
    let plan = c.in-Ok.plan in
    let is = c.in-Ok.ensures in
    let opened = c.parts.view_is in
    let moves = subst (λ (homes : List Home). MovesIn c.args.parts homes plan.shares.items c.move_in.new.parts c.move_in.new.shares.items) c.deref.ensures.value c.move_in.ensures in
    raised_in c.args.parts c.move_in.new.parts (c.args.pace.turns + 1) plan.shares.items is.ends _ c.requires.mesh c.requires.layout is.shared is.holds is.up is.crossing moves
    (ap (λ (s : State). s.setup) opened) (ap (λ (s : State). s.hands) opened) (ap (λ (s : State). s.inputs) opened) (ap (λ (s : State). s.cores) opened) (ap (λ (s : State). s.unsent) opened)
    (c.of_list.ensures ∙ (c.replace-delivered.ensures.value ∙ ap (λ (s : State). s.delivered) opened))
    (c.of_list-in-Ok.ensures ∙ (c.into_seq.ensures ∙ (c.replace-dumped.ensures.value ∙ ap (λ (s : State). s.dumped) opened)))
