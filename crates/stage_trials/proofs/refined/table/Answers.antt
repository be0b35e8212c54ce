-- The size is 2 to the power 4. The four rows have the route that they were given.
use Rattle.std.proofs.Common.{refl, sym, subst, ◌∷◌, [], ◌∙◌}
use Rattle.cover_merge.specs.Merge.{IsOneRoute}
use Rattle.stage_trials.proofs.FourOfFive.{four_of_five}
use Rattle.stage_trials.proofs.refined.table.Goals as goal

pub block_of-requires-clause-power : goal.block_of-requires-clause-power
block_of-requires-clause-power c = (4, refl)

pub returns-clause-one_route : goal.returns-clause-one_route
returns-clause-one_route c =
    subst (λ rows. IsOneRoute rows (0 ∷ 1 ∷ 2 ∷ 3 ∷ [])) (sym (c.from_vec.ensures ∙ c.in_ok-rows.ensures.items))
    (four_of_five _ c.in_ok-first.first c.in_ok-second.second c.in_ok-third.third c.in_ok-fourth.fourth c.in_ok-last.last
    c.in_ok-first.ensures c.in_ok-second.ensures c.in_ok-third.ensures c.in_ok-fourth.ensures)
