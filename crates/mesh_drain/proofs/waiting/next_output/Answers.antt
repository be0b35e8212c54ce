use Rattle.mesh_drain.proofs.Common.{Hand, List, Out, ap, arith, slice_get, ◌∙◌}
use Rattle.mesh_drain.proofs.Ports.{next_some, next_none}
use Rattle.mesh_drain.proofs.waiting.next_output.Goals as goal

pub returns-clause-some : goal.returns-clause-some
returns-clause-some c =
    next_some c.args.router.mesh.now c.args.router.chip c.in_ok-hand.field-0.now c.copied.result c.args.router.inside c.in_ok-hand.ensures
    (c.copied.ensures ∙ (c.first.ensures.value ∙ ap (λ (l : List Out). slice_get l 0) (c.as_slice.ensures.value ∙ ap (λ (h : Hand). h.outs) c.branch.view_is)))

pub returns-clause-none : goal.returns-clause-none
returns-clause-none c = grind (arith, next_none)
