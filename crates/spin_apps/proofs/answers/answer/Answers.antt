use Rattle.spin_apps.proofs.Common.{AreAnswered, Host, OnOk, Option, string_bytes, subst, sym}
use Rattle.spin_apps.proofs.Chain.{all_apps, all_given, all_only, all_told}
use Rattle.spin_apps.proofs.answers.answer.Goals as goal

pub returns : goal.returns
returns c =
    let steps = c.args.steps.now in
    let text = string_bytes c.take_all-taken.new.text in
    let told = subst (λ (o : Option Host). OnOk c.take_all-taken.result (AreAnswered steps text o)) (sym c.apps_of.ensures.same) c.take_all-taken.ensures in
    let answered = all_told steps c.take_all-taken.result text c.apps_of.result c.finished.result told c.finished.ensures in
    record {
      answered = answered;
      given = all_given steps c.finished.result answered;
      apps = all_apps c.take_all-taken.result text c.apps_of.result c.finished.result c.apps_of.ensures.apps c.finished.ensures;
      only = all_only steps c.finished.result (λ one other after last. c.steps_have_one_text.ensures steps one other after last c.requires.valid) answered;
    }
