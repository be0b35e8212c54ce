-- The link, the aliases and the later rows together.
use Rattle.default_routes.proofs.Common.{Alias, All, Link, subst, ◌≡◌}
use Rattle.default_routes.proofs.StripLemmas.{match_strip}
use Rattle.default_routes.proofs.stripping.can_go.Goals as goal

pub returns-then-all_arrive : goal.returns-then-all_arrive
returns-then-all_arrive c apart =
    match_strip _ _ _ _ c.in-Some.ensures (subst (All (λ (a : Alias). a.port ≡ Link c.in-Some.arrival)) c.as_slice.ensures c.if-all_arrive.ensures) (c.is_clear.ensures apart)
