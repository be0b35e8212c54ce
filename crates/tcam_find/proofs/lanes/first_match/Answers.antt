use Rattle.std.proofs.Common.{rules}
use Rattle.tcam_find.proofs.LaneLemmas.{lane_within, lane_before, lane_found}
use Rattle.tcam_find.proofs.lanes.first_match.Goals as goal

pub returns : goal.returns
returns c = search (rules, lane_within, lane_before, lane_found)
