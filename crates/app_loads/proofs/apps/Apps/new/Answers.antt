use Rattle.app_loads.proofs.Common.{All-replicate, IsMesh, SendAlone, [], ap, frees, numbers_of, refl, rules, subst, sym, ◌∙◌}
use Rattle.app_loads.proofs.{Resting.rest_alone, Bare.made_apps}
use Rattle.app_loads.proofs.apps.Apps.new.Goals as goal

pub invariant_of-result : goal.invariant_of-result
invariant_of-result c =
    let bare = c.new.ensures ∙ c.in_ok-mesh.ensures.bare in
    record {
      there = refl;
      apps = made_apps c.args.machine.now c.args.queue c.new.result (frees c.in_ok-regions.regions.items) c.new-2.result.items bare c.in_ok-regions.ensures c.new-2.ensures.items
          (subst IsMesh (sym c.new.ensures) c.in_ok-mesh.ensures.valid);
      numbers = c.new-3.ensures.items ∙ ap numbers_of (sym c.new-2.ensures.items);
      rest = subst (λ vertices. SendAlone vertices c.new.result) (sym c.new-4.ensures) (subst (SendAlone []) (sym bare) (search (rules, rest_alone, All-replicate)));
    }

pub returns-clause-apps : goal.returns-clause-apps
returns-clause-apps c = made_apps _ _ _ _ _ (c.new.ensures ∙ c.in_ok-mesh.ensures.bare) c.in_ok-regions.ensures c.new-2.ensures.items (subst IsMesh (sym c.new.ensures) c.in_ok-mesh.ensures.valid)
