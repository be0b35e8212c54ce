use Rattle.run_report.proofs.Common.{row_total, subst, sym, ◌<◌, ◌^◌}
use Rattle.run_report.proofs.Listing.{few_rows}
use Rattle.run_report.proofs.plans.plan_text.Goals as goal

pub invariant_of-tables : goal.invariant_of-tables
invariant_of-tables c = record { few = subst (λ ts. row_total ts < 2 ^ 64) (sym c.as_slice-chips.ensures) (few_rows c.args.image.now c.requires.image) }
