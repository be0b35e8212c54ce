-- A refinement within bounds is a refinement.
use Rattle.cover_merge.proofs.Common.{IsLegal, IsMergeSet, [], subst, ◌≡◌, ◌⊎◌}
use Rattle.cover_merge.proofs.refining.refine.Goals as goal

pub returns-clause-legal : goal.returns-clause-legal
returns-clause-legal c =
    let set = c.in_ok-set.field-0.set in subst (λ l. (set ≡ []) ⊎ ((IsMergeSet l set) × (IsLegal l set))) c.as_slice-rows.ensures c.in_ok-set.ensures.legal
