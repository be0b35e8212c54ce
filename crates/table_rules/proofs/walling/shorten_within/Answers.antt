-- A table that is its own.
use Rattle.table_rules.proofs.Common.{HasAllRoutes, IsFree, IsShortenedWithin, KeepsRoutes, MatchOption, Route, no_route, subst, sym}
use Rattle.table_rules.specs.Exact.{short}
use Rattle.table_rules.proofs.Faithful.{keeps_itself}
use Rattle.table_rules.proofs.walling.shorten_within.Goals as goal

pub returns-then-given-target-clause-rows : goal.returns-then-given-target-clause-rows
returns-then-given-target-clause-rows c = subst (IsShortenedWithin c.args.target c.args.room c.args.given.now) (sym c.in_ok-same.ensures) (short c.if-given-target.true)

pub returns-then-given-target-clause-routes : goal.returns-then-given-target-clause-routes
returns-then-given-target-clause-routes c = subst (KeepsRoutes c.args.given.now) (sym c.in_ok-same.ensures) (keeps_itself c.args.given.now)

pub returns-in_ok-same-in-None-clause-rows : goal.returns-in_ok-same-in-None-clause-rows
returns-in_ok-same-in-None-clause-rows c =
    subst (IsShortenedWithin c.args.target c.args.room c.args.given.now) (sym c.in_ok-same-in-None.ensures) (no_route c.if-given-target.false
    (subst (λ o. MatchOption o (HasAllRoutes 16777216 c.args.given.now) (λ (r : Route). IsFree c.args.given.now r.bits)) c.in-None.is c.in_ok-route.ensures))

pub returns-in_ok-same-in-None-clause-routes : goal.returns-in_ok-same-in-None-clause-routes
returns-in_ok-same-in-None-clause-routes c = subst (KeepsRoutes c.args.given.now) (sym c.in_ok-same-in-None.ensures) (keeps_itself c.args.given.now)
