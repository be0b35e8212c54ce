use Rattle.spin_jobs.proofs.Common.{HasReinjected, HasRunOut, Images, IsTraced, Lists, Reports, Summarises, gen_job, generated, imaged, listed, ran, reinjected, traced, ◌≡◌}
use Rattle.spin_jobs.proofs.{AtRest.ran_out, AtRest.reinjected_as, AtRest.reports_at_rest, WordLaws.made_by}
use Rattle.spin_jobs.proofs.words.make.Goals as goal

pub returns-in_ok-mesh-in-Run : goal.returns-in_ok-mesh-in-Run
returns-in_ok-mesh-in-Run g c =
    let job = c.args.planned.now.job in
    let plan = c.args.planned.now.plan in
    let done = c.in_ok-mesh-in-Run.ensures in
    made_by c.reported.result (Reports HasRunOut) (λ parts text reports of_number. ran c.in-Run.is reports)
    (reports_at_rest job plan c.in_ok-mesh-in-Run.mesh HasRunOut c.new.result c.reported.result c.new.ensures done.kept done.at_rest
    (λ report told. ran_out job plan c.in_ok-mesh-in-Run.mesh report told done.reached done.no_record) c.reported.ensures)

pub returns-in_ok-mesh-in-Reinject : goal.returns-in_ok-mesh-in-Reinject
returns-in_ok-mesh-in-Reinject g c =
    let job = c.args.planned.now.job in
    let plan = c.args.planned.now.plan in
    let done = c.in_ok-mesh-in-Reinject.ensures in
    made_by c.reported-in-Reinject.result (Reports HasReinjected) (λ parts text reports of_number. reinjected c.in-Reinject.is reports)
    (reports_at_rest job plan c.in_ok-mesh-in-Reinject.mesh HasReinjected c.new-in-Reinject.result c.reported-in-Reinject.result c.new-in-Reinject.ensures done.kept done.at_rest
    (λ report told. reinjected_as job plan c.in_ok-mesh-in-Reinject.mesh report told done.reached done.no_record) c.reported-in-Reinject.ensures)

pub returns-in-Trace : goal.returns-in-Trace
returns-in-Trace g c = made_by c.trace.result (Reports IsTraced) (λ parts text reports of_number. traced c.in-Trace.is reports) c.trace.ensures

pub returns-in-Compile : goal.returns-in-Compile
returns-in-Compile g c = made_by c.image.result Images (λ parts text images of_number. imaged c.in-Compile.is images) c.image.ensures

pub returns-in-Tables : goal.returns-in-Tables
returns-in-Tables g c = made_by c.list.result Lists (λ parts text lists of_number. listed c.in-Tables.is lists) c.list.ensures

pub returns-in-Gen : goal.returns-in-Gen
returns-in-Gen g c =
    made_by c.generated.result (λ job plan parts text. job ≡ gen_job c.in-Gen.number → Summarises c.in-Gen.number job plan parts text)
    (λ parts text summarises of_number. generated c.in-Gen.number c.in-Gen.is (summarises (of_number c.in-Gen.number c.in-Gen.is))) c.generated.ensures
