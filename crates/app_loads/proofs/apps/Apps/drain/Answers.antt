use Rattle.app_loads.proofs.Common.{after_moved, CanDrain, subst, sym}
use Rattle.app_loads.proofs.Hosts.{apps_after_in, can_drain, host_after}
use Rattle.app_loads.proofs.apps.Apps.drain.Goals as goal

pub drain_known-requires : goal.drain_known-requires
drain_known-requires c = subst (CanDrain c.in-Some.mesh c.self.inside.senders) (sym c.deref.ensures.value) (can_drain c.self.inside c.in-Some.mesh c.self.invariant c.in-Some.is)

pub invariant_of-self-2 : goal.invariant_of-self-2
invariant_of-self-2 c =
    host_after c.self.inside c.in-Some.mesh c.drain_known.new.mesh c.drain_known.new.senders c.self.invariant c.in-Some.is
    (after_moved c.in-Some.mesh c.drain_known.new.mesh c.drain_known.ensures.moved) c.drain_known.ensures.known

pub returns-clause-apps : goal.returns-clause-apps
returns-clause-apps c =
    apps_after_in c.self.inside c.in-Some.mesh c.drain_known.new.mesh c.self.invariant c.in-Some.is
    (after_moved c.in-Some.mesh c.drain_known.new.mesh c.drain_known.ensures.moved)
