-- The places are those of the route's rows.
use Rattle.cover_merge.proofs.Common.{arith, get_or, get_or_default}
use Rattle.cover_merge.proofs.ChooseLemmas.{places_of-one_route}
use Rattle.cover_merge.proofs.choosing.refined_of.Goals as goal

pub refine_within-requires : goal.refine_within-requires
refine_within-requires c =
    grind (arith, places_of-one_route (get_or (c.args.known.now.routes.items) c.args.c 0) (c.args.rows.now), get_or (c.args.known.now.routes.items) c.args.c 0, get_or_default, get_or)
