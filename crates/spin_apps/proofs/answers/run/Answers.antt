use Rattle.spin_apps.proofs.Serving.{told_run}
use Rattle.spin_apps.proofs.answers.run.Goals as goal

pub returns-in_ok-run-in-Some : goal.returns-in_ok-run-in-Some
returns-in_ok-run-in-Some c = told_run c.put_run.result c.args.hosted.now c.in-Some.host c.run.new.self _ _ c.in-Some.is
    c.in_ok-run-in-Some.ensures.drained c.in_ok-run-in-Some.ensures.apps c.put_run.ensures
