use Rattle.spin_apps.proofs.Common.{AreFreeOn, AreRoadsOf, Description, Host, ap, bare_host, free_machine, subst, sym, ◌∙◌, ◌≡◌}
use Rattle.spin_apps.proofs.Keeping.{free_bare}
use Rattle.spin_apps.proofs.hosts.Hosted.bare.Goals as goal

pub invariant_of-result : goal.invariant_of-result
invariant_of-result c =
    let m = c.args.machine.now in
    let same = c.in_ok-machine.ensures in
    let bare : c.in_ok-apps.apps ≡ bare_host m c.args.queue = c.in_ok-apps.ensures.bare ∙ ap (λ (x : Description). bare_host x c.args.queue) same in
    record {
      apps = c.in_ok-apps.ensures.apps;
      machine = ap (λ (h : Host). h.mesh.setup.machine) c.in_ok-apps.ensures.bare;
      roads = subst (λ (x : Description). AreRoadsOf x c.in_ok-roads.roads) (sym same) c.in_ok-roads.ensures;
      free = subst (λ (h : Host). AreFreeOn (free_machine h) c.in_ok-free.free) (sym bare) (free_bare m c.args.queue c.in_ok-free.free c.in_ok-free.ensures);
    }
