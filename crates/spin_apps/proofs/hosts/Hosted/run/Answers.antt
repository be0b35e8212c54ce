use Rattle.spin_apps.proofs.Common.{AreFreeOn, Description, Host, Setup, State, ap, setup_after, subst, sym, ◌∙◌, ◌≡◌}
use Rattle.spin_apps.proofs.Keeping.{same_free}
use Rattle.spin_apps.proofs.hosts.Hosted.run.Goals as goal

pub invariant_of-self : goal.invariant_of-self
invariant_of-self c =
    let old = c.self.inside.apps in
    let new = c.drain.new.self in
    let moved = c.drain.ensures.moved in
    let machine : new.mesh.setup.machine ≡ old.mesh.setup.machine = ap (λ (s : State). s.setup.machine) moved.mesh.is ∙ ap (λ (u : Setup). u.machine) (setup_after old.mesh moved.mesh.events) in
    record {
      apps = c.drain.ensures.apps;
      machine = machine ∙ c.self.invariant.machine;
      roads = c.self.invariant.roads;
      free = subst (λ (m : Description). AreFreeOn m c.self.inside.free) (sym (same_free new old machine (ap (λ (h : Host). h.apps) moved.others))) c.self.invariant.free;
    }
