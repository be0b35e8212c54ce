-- A short table is its own.
use Rattle.table_rules.proofs.Common.{IsShortenedTo, KeepsRoutes, short, subst, sym}
use Rattle.table_rules.proofs.Faithful.{keeps_itself}
use Rattle.table_rules.proofs.shortening.shorten_rows.Goals as goal

pub returns-then-given-target-clause-rows : goal.returns-then-given-target-clause-rows
returns-then-given-target-clause-rows c = subst (IsShortenedTo c.args.target c.args.room c.args.given.now) (sym c.in_ok-same.ensures) (short c.if-given-target.true)

pub returns-then-given-target-clause-routes : goal.returns-then-given-target-clause-routes
returns-then-given-target-clause-routes c = subst (KeepsRoutes c.args.given.now) (sym c.in_ok-same.ensures) (keeps_itself c.args.given.now)
