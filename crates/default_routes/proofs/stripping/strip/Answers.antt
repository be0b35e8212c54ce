-- The kept rows route as all rows do.
use Rattle.default_routes.proofs.StripLemmas.{kept_routes, kept_serve, kept_places}
use Rattle.default_routes.proofs.stripping.strip.Goals as goal

pub returns-clause-places : goal.returns-clause-places
returns-clause-places c = kept_places c.args.sound.rows.now c.in_ok-kept.kept c.in_ok-kept.ensures

pub returns-clause-routes : goal.returns-clause-routes
returns-clause-routes c = kept_routes c.args.sound.rows.now c.args.sound.sound c.in_ok-kept.kept c.in_ok-kept.ensures

pub returns-clause-serves : goal.returns-clause-serves
returns-clause-serves c = kept_serve c.args.sound.rows.now c.args.sound.sound c.in_ok-kept.kept c.in_ok-kept.ensures
