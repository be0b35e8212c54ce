use Rattle.app_loads.proofs.Common.{AreGivenBack, Ended, HasLeft, IfErr-at_err, IfOk-at_ok, IsWhyHere, NoneUnderWay, arith, refl, sym, with_items, with_items_is, ◌∙◌}
use Rattle.app_loads.proofs.LeftHost.{HasGone, Leaves, can_leave, not_loaded, ok_host, ok_none, ok_unloaded, on_ok_is, senders_known, why_stays}
use Rattle.app_loads.proofs.{LoadedHost.Stands, LoadedHost.on_err, LoadedHost.still, apps.Apps.unload.Goals.After-index, apps.Apps.unload.Goals.After-put, apps.Apps.unload.Goals.After-put-in-Err}
use Rattle.app_loads.proofs.apps.Apps.unload.Goals as goal

leaves : (c : After-index) → Leaves c.self.inside c.args.self.now c.args.number c.in-Some.at c.index.result.now c.take_out-mesh.result c.deref_mut.result.now
leaves c = grind arith

-- it left
gone : (c : After-put) → HasGone c.self.inside (record c.self.inside {
  mesh = c.put.new.held;
  regions = with_items c.self.inside.regions c.leave-mesh.new.regions;
  apps = c.remove-in-Ok.new.self;
  numbers = c.remove.new.self;
}) c.take_out-mesh.result c.deref_mut.result.now c.args.number c.in-Some.at c.index.result.now c.in-Ok.ended
gone c = record {
  after = c.leave-mesh.result.0;
  new = c.leave-mesh.new.regions;
  back = on_ok_is (AreGivenBack c.take_out-mesh.result.setup.machine c.index.result.now.ranges c.deref_mut.result.now c.leave-mesh.new.regions) c.in-Ok.is c.leave-mesh.ensures.given;
  left = IfOk-at_ok (λ (e : Ended). HasLeft c.index.result.now c.take_out-mesh.result e.delivered e.dumped c.leave-mesh.result.0) c.in-Ok.is c.leave-mesh.ensures.left;
  none = on_ok_is (NoneUnderWay c.take_out-mesh.result c.index.result.now) c.in-Ok.is c.leave-mesh.ensures.none;
  mesh_is = c.put.ensures;
  regions = with_items_is c.self.inside.regions c.leave-mesh.new.regions (c.leave-mesh.auto.regions ∙ c.deref_mut.ensures.len);
  apps = c.remove-in-Ok.ensures.items;
  packets = refl;
  numbers = c.remove.ensures.items;
  senders = refl;
}

-- it stays
stays : (c : After-put-in-Err) → Stands (record c.self.inside { mesh = c.put-in-Err.new.held; regions = with_items c.self.inside.regions c.leave-mesh.new.regions }) c.args.self.now
stays c = grind (arith, on_err, still, with_items_is)

pub returns-in_default-clause-why : goal.returns-in_default-clause-why
returns-in_default-clause-why c = not_loaded c.args.self.now.apps c.args.number (sym c.place_of.ensures ∙ c.in_default.is)

pub leave-mesh-requires : goal.leave-mesh-requires
leave-mesh-requires c = let it = leaves (goal.at.leave-mesh-requires c).After-index in record { can = can_leave it; known = senders_known it }

pub invariant_of-self : goal.invariant_of-self
invariant_of-self c = ok_host (leaves (goal.at.invariant_of-self c).After-index) (gone (goal.at.invariant_of-self c).After-put)

pub invariant_of-self-in-Err : goal.invariant_of-self-in-Err
invariant_of-self-in-Err c = (stays (goal.at.invariant_of-self-in-Err c).After-put-in-Err).host

pub returns-in-Ok : goal.returns-in-Ok
returns-in-Ok c =
    let it = leaves (goal.at.returns-in-Ok c).After-index in
    let all = gone (goal.at.returns-in-Ok c).After-put in
    record { unloaded = ok_unloaded it all; none_waits = ok_none it all.none; why = tt; refused = tt; apps = (ok_host it all).apps }

pub returns-in-Err : goal.returns-in-Err
returns-in-Err c =
    let it = stays (goal.at.returns-in-Err c).After-put-in-Err in
    record {
      unloaded = tt;
      none_waits = tt;
      why = why_stays (leaves (goal.at.returns-in-Err c).After-index) c.in-Err.cause (IfErr-at_err (IsWhyHere c.take_out-mesh.result c.index.result.now) c.in-Err.is c.leave-mesh.ensures.why);
      refused = it.view;
      apps = it.host.apps;
    }
