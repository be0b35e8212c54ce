-- `retain` keeps what its closure keeps.
use Rattle.cover_merge.proofs.Common.{filter_same, rules}
use Rattle.cover_merge.proofs.refining.keep.Goals as goal

pub returns : goal.returns
returns c = filter_same _ _ _ (λ x b f' k. search rules) _ _ c.retain.ensures.filtered
