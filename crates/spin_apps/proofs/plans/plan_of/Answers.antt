use Rattle.spin_apps.proofs.Common.{IsWhyUnplanned, IsWith, List, Spot, free_but, free_machine, rules, subst, sym}
use Rattle.spin_apps.proofs.{FreeSpots.free_sites, FreeSpots.free_untaken, FreeSpots.placed_free, Keeping.with_spots, Planning.nets_on, Planning.plan_for, Planning.plan_valid, Planning.why_unrouted}
use Rattle.spin_apps.proofs.plans.plan_of.Goals as goal

pub app_nets-requires : goal.app_nets-requires
app_nets-requires c =
    let h = c.requires.host in
    let on = c.requires.on in
    let p = c.in_ok-spots.ensures.placed h on.free in
    record {
      roads = c.requires.roads;
      few = c.requires.valid.graph.few_nets;
      valid = nets_on _ c.in_ok-spots.spots c.args.job.now.graph.nets p.placed.is.all c.requires.valid.graph.nets;
      sites = free_sites h c.args.machine.now c.in_ok-spots.spots on.machine
          (placed_free h c.args.job.now.graph.vertices c.in_ok-spots.spots p.placed.memory p.placed.is c.requires.valid.cores);
    }

pub returns-in-Ok-clause-plan : goal.returns-in-Ok-clause-plan
returns-in-Ok-clause-plan c h on =
    let p = c.in_ok-spots.ensures.placed h on.free in
    record {
      is = plan_for c.in-Ok.nets on.machine p.placed c.in_ok-sdram.ensures c.in-Ok.ensures.nets c.in_ok-packets.ensures;
      valid = plan_valid c.in-Ok.nets on.machine p.placed c.in_ok-sdram.ensures c.in-Ok.ensures.nets c.in_ok-packets.ensures c.requires.valid c.in-Ok.ensures.valid;
      untaken = free_untaken h c.in_ok-spots.spots (placed_free h c.args.job.now.graph.vertices c.in_ok-spots.spots p.placed.memory p.placed.is c.requires.valid.cores);
      usable = p.usable;
      taken = p.taken;
    }

pub returns-in-Err-clause-none : goal.returns-in-Err-clause-none
returns-in-Err-clause-none c h on =
    let p = c.in_ok-spots.ensures.placed h on.free in
    let spots = c.in_ok-spots.spots in
    record {
      why = subst (IsWhyUnplanned h c.args.job.now) (sym c.unrouted.ensures) (why_unrouted c.in-Err.e on.machine p.placed (search rules));
      free = c.give.ensures (free_but h spots) (free_machine h) p.taken
          (subst (λ (l : List Spot). IsWith l (free_but h spots) (free_machine h)) (sym c.as_slice.ensures) (with_spots h spots p.usable));
    }
