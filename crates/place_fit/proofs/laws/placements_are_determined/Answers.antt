use Rattle.place_fit.proofs.Determined.{one_placement, not_both, one_vertex}
use Rattle.place_fit.proofs.laws.placements_are_determined.Goals as goal

pub returns : goal.returns
returns c = record { one_placement = one_placement; not_both = not_both; one_vertex = one_vertex }
