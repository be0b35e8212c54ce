use Rattle.spin_apps.proofs.Common.{IsWhyUnplanned, free_but, free_machine, subst, sym}
use Rattle.spin_apps.proofs.{FreeSpots.placed_usable, Keeping.without_spots, Planning.why_unplaced}
use Rattle.spin_apps.proofs.plans.placed.Goals as goal

pub returns-in-Ok-clause-placed : goal.returns-in-Ok-clause-placed
returns-in-Ok-clause-placed c h free =
    let placement = c.in-Ok.placement in
    let is = c.in-Ok.ensures.placed (free_machine h) free in
    record {
      placed = record { memory = placement.memory; is = is; different = c.in-Ok.ensures.different (free_machine h) free };
      usable = placed_usable h c.args.job.now.graph.vertices placement.spots placement.memory is c.requires.cores;
      taken = c.in-Ok.ensures.taken (free_machine h) (free_but h placement.spots) free (without_spots h placement.spots);
    }

pub returns-in-Err-clause-none : goal.returns-in-Err-clause-none
returns-in-Err-clause-none c h free = record {
  why = subst (IsWhyUnplanned h c.args.job.now) (sym c.unplaced.ensures) (why_unplaced h c.args.job.now c.in-Err.e (c.in-Err.ensures.no_room (free_machine h) free));
  free = c.in-Err.ensures.refused (free_machine h) free;
}
