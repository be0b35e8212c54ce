use Rattle.spin_jobs.proofs.Common.{AreRight, Entry, Image, IsValidWithPlan, JobWithPlan, List, Spells, ap, refl, subst, sym, tables_image, ◌∙◌}
use Rattle.spin_jobs.proofs.makes.image.Goals as goal

pub returns : goal.returns
returns c =
    let job = c.args.planned.now.job in
    let plan = c.args.planned.now.plan in
    let valid = subst (λ (p : JobWithPlan). IsValidWithPlan p.job p.plan) c.planned.view_is c.planned.invariant in
    let of = c.in_ok-image.ensures.image ∙ ap (λ (p : JobWithPlan). tables_image p.job p.plan) c.planned.view_is in
    let spelled = subst (λ (v : Image). Spells v c.in_ok-text.text) of c.in_ok-text.ensures in
    let fill = c.images_fill_their_tables.ensures job.machine plan.tables c.in_ok-text.text
    (record { one_each = valid.planned.one_table_each; kept = valid.planned.keep; short = valid.planned.short }) spelled
    in
    record {
      given = refl;
      spelled = spelled;
      filled = fill.filled;
      only = fill.only;
      right = λ memories filled. subst (λ (ms : List (List Entry)). AreRight job.machine ms plan.nets) (sym (fill.only memories filled)) valid.planned.right;
    }
