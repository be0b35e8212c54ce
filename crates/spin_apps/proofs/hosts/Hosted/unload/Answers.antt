use Rattle.spin_apps.proofs.Common.{IsWith, List, Spot, free_machine, subst, sym, ◌∙◌, ◌≡◌}
use Rattle.spin_apps.proofs.{Keeping.unloaded_with, Serving.machine_after_unload}
use Rattle.spin_apps.proofs.hosts.Hosted.unload.Goals as goal

pub invariant_of-self : goal.invariant_of-self
invariant_of-self c =
    let old = c.self.inside.apps in
    let new = c.unload.new.self in
    let unloaded = c.in-Ok.ensures.unloaded in
    let spots : c.deref.result.now ≡ unloaded.app.plan.spots = c.deref.ensures.value ∙ c.in_ok-spots.ensures.spots unloaded.app unloaded.is unloaded.number_is in
    record {
      apps = c.unload.ensures.apps;
      machine = machine_after_unload c.unload.result old new c.args.number c.unload.ensures.unloaded c.unload.ensures.refused ∙ c.self.invariant.machine;
      roads = c.self.invariant.roads;
      free = c.give.ensures (free_machine old) (free_machine new) c.self.invariant.free
          (subst (λ (l : List Spot). IsWith l (free_machine old) (free_machine new)) (sym spots) (unloaded_with old new c.args.number c.in-Ok.ended c.self.invariant.apps unloaded));
    }
