-- The laws, as the lemmas say them.
use Rattle.cover_merge.proofs.Determined.{one_refined, one_chosen, chosen_or_none, one_covering, one_covered}
use Rattle.cover_merge.proofs.laws.coverings_are_determined.Goals as goal

pub returns : goal.returns
returns c = record { one_refined = one_refined; one_chosen = one_chosen; chosen_or_none = chosen_or_none; one_covering = one_covering; one_answer = one_covered }
