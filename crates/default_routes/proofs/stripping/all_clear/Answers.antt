-- The rows are clear where each of them misses the row.
use Rattle.default_routes.proofs.Common.{rules}
use Rattle.default_routes.proofs.StripLemmas.{meets_one, misses_more, misses_all}
use Rattle.default_routes.proofs.stripping.all_clear.Goals as goal

pub returns-then-not-misses : goal.returns-then-not-misses
returns-then-not-misses c = search (rules, meets_one)

pub loop-s-preserved : goal.loop-s-preserved
loop-s-preserved c = search (rules, misses_more)

pub returns : goal.returns
returns c = misses_all c.args.at.rows.now c.args.at.places.now c.args.row.now c.loop-s.s-index c.loop-s-test.false c.loop-s.invariant
