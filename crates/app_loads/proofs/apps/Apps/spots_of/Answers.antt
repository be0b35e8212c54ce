use Rattle.app_loads.proofs.Common.{AreApps, Host, LoadedApp, Some, ap, get_or, position, subst, sym, ◌==◌, ◌∙◌, ◌≡◌}
use Rattle.app_loads.proofs.{SpotsOf.found_loaded, SpotsOf.no_app, SpotsOf.same_as_found, apps.Apps.spots_of.Goals.After-index-app}
use Rattle.app_loads.proofs.apps.Apps.spots_of.Goals as goal

pub returns-in_default-clause-spots : goal.returns-in_default-clause-spots
returns-in_default-clause-spots c app has its = absurd (no_app c.args.self.now.apps c.args.number (sym c.place_of.ensures ∙ c.in_default.is) app has its)

place : (c : After-index-app) → position (λ (a : LoadedApp). a.number == c.args.number) c.args.self.now.apps ≡ Some c.in-Some.at
place c = sym c.place_of.ensures ∙ c.in-Some.is

found : (c : After-index-app) → c.index-app.result.now ≡ get_or c.args.self.now.apps c.in-Some.at c.index-app.result.now
found c = c.index-app.ensures ∙ ap (λ (h : Host). get_or h.apps c.in-Some.at c.index-app.result.now) c.self.view_is

pub returns-clause-spots : goal.returns-clause-spots
returns-clause-spots c app has its =
    let it = (goal.at.returns-clause-spots c).After-index-app in
    let apps : AreApps c.args.self.now = subst AreApps c.self.view_is c.self.invariant.apps in
    c.in_ok-from_slice.ensures.items
    ∙ (c.as_slice.ensures ∙ ap (λ (a : LoadedApp). a.plan.spots) (same_as_found c.args.self.now.apps c.args.number c.in-Some.at c.index-app.result.now (place it) (found it) apps.numbers app has its))

pub returns-clause-none : goal.returns-clause-none
returns-clause-none c out =
    let it = (goal.at.returns-clause-none c).After-index-app in
    absurd (found_loaded c.args.self.now.apps c.args.number c.in-Some.at c.index-app.result.now (place it) (found it) out)
