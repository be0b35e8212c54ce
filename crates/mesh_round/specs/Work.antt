-- How much is still to be done in a mesh: a number that each round lowers in which a copy moves (this project's own).
use Rattle.std.specs.Prelude.{ℕ, ◌+◌, ◌*◌, ◌-◌}
use Rattle.std.specs.List.{sum_by}
use Rattle.mesh_core.specs.State.{State}
use Rattle.spin_base.specs.Hops.{last_hop}
use Rattle.mesh_core.specs.Trail.{Station, unsent, in_queue, in_hand, at_core, delivered, dumped, Mark}
use Rattle.mesh_core.specs.Ledger.{marks_of}
pub use Rattle.mesh_core.specs.Heavy.{heavy}

-- how many moves a copy at a station is from its delivery at most, where its hop number may rise so often
abbrev pub moves_left : ℕ → Station → ℕ
moves_left hops (unsent v) = 3 * hops + 2
moves_left hops (in_queue c port) = 3 * hops + 1
moves_left hops (in_hand c o) = 3 * (hops - 1) + 3
moves_left hops (dumped c o) = 3 * (hops - 1) + 2
moves_left hops (at_core v) = 1
moves_left hops (delivered v) = 0

-- how far a mark still has to go at most
unfoldable pub to_go : Mark → ℕ
to_go k = moves_left (last_hop - k.copy.hop) k.station

-- a mark weighs the more, the further it still has to go
unfoldable pub work_weight_of : Mark → ℕ
work_weight_of k = heavy (to_go k)

-- what all marks of a mesh weigh
unfoldable pub work_in : State → ℕ
work_in s = sum_by work_weight_of (marks_of s)
