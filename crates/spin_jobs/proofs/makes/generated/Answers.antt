use Rattle.spin_jobs.proofs.Common.{Did, IsReported, JobWithPlan, List, [], ap, arith, few_rows, refl, row_total, subst, summary_text, sym, ◌<◌, ◌^◌, ◌∙◌}
use Rattle.spin_jobs.proofs.{AtRest.is_kept, AtRest.ran_out, AtRest.reported_of, AtRest.told_count, AtRest.told_none, Generating.generated_roomy}
use Rattle.spin_jobs.proofs.makes.generated.Goals as goal

pub report_of-requires : goal.report_of-requires
report_of-requires g c = grind arith

pub summary_text-requires : goal.summary_text-requires
summary_text-requires g c = subst (λ ts. row_total ts < 2 ^ 64) (sym c.in_ok-report.ensures.same_tables) (few_rows c.in_ok-image.image c.in_ok-image.ensures.valid)

pub returns : goal.returns
returns g c = λ of_number.
    let job = c.args.planned.now.job in
    let plan = c.args.planned.now.plan in
    let mesh = c.in_ok-mesh.mesh in
    let ran = c.in_ok-mesh.ensures in
    let report = c.in_ok-report.report in
    let reported = subst (λ (did : List Did). IsReported job plan mesh did report) c.new.ensures
    (reported_of _ _ c.planned.view_is c.in_ok-image.image mesh c.new.result report c.in_ok-image.ensures.image c.in_ok-report.ensures)
    in
    let no_record = ran.no_record (generated_roomy c.args.number job of_number) in (
      mesh,
      report,
      is_kept job plan mesh [] report ran.kept.ledger reported,
      ran_out job plan mesh report (record { kept = ran.kept; at_rest = ran.at_rest; reported = reported }) ran.reached ran.no_record,
      refl,
      record {
        summary = c.in_ok-text.ensures ∙ ap (λ (p : JobWithPlan). summary_text c.args.number p.job.machine p.job.graph p.job.run report) c.planned.view_is;
        delivered = told_count job plan mesh [] report reported
            ∙ c.deliveries_are_as_many_as_expected.ensures mesh plan.nets job.run.packets ran.kept.is_mesh ran.kept.ledger ran.at_rest no_record;
        dumped = told_none job plan mesh [] report no_record reported;
      },
    )
