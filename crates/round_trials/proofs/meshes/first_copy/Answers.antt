use Rattle.std.proofs.Common.{◌≡◌, ◌∙◌, ap, arith, sym}
use Rattle.std.specs.List.{slice_get}
use Rattle.round_trials.proofs.Traced.{first_tracked}
use Rattle.round_trials.proofs.meshes.first_copy.Goals as goal

pub where_is-requires-clause-tracked : goal.where_is-requires-clause-tracked
where_is-requires-clause-tracked c =
    let packet = c.in_ok-packet.packet.now in
    let first : packet.net ≡ 0 = omega (arith, c.if-packet-ne0.false) in
    first_tracked c.args.parts.now c.in_ok-job.job.now c.in_ok-plan.plan.now c.in_ok-mesh.mesh.now c.in_ok-_report._report.now packet c.in_ok-net.net.now c.requires
    (sym c.in_ok-job.ensures.value) (sym c.in_ok-plan.ensures.value) (sym c.in_ok-mesh.ensures.value) (sym c.in_ok-_report.ensures.value)
    (ap (λ xs. slice_get xs 0) (sym c.as_slice.ensures) ∙ sym c.in_ok-packet.ensures.value) (ap (λ xs. slice_get xs 0) (sym c.as_slice-2.ensures) ∙ sym c.in_ok-net.ensures.value) first
