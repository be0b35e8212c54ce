use Rattle.app_loads.proofs.Common.{None}
use Rattle.app_loads.proofs.Hosts.{apps_after_in, host_after, step_after}
use Rattle.app_loads.proofs.apps.Apps.step.Goals as goal

pub invariant_of-self-2 : goal.invariant_of-self-2
invariant_of-self-2 c =
    host_after c.self.inside c.in-Some.mesh c.step.new.self None c.self.invariant c.in-Some.is
    (step_after c.step.result c.in-Some.mesh c.step.new.self c.args.e c.step.ensures.moves c.step.ensures.err) tt

pub returns-clause-apps : goal.returns-clause-apps
returns-clause-apps c =
    apps_after_in c.self.inside c.in-Some.mesh c.step.new.self c.self.invariant c.in-Some.is
    (step_after c.step.result c.in-Some.mesh c.step.new.self c.args.e c.step.ensures.moves c.step.ensures.err)
