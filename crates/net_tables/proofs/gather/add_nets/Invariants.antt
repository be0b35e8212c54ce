use Rattle.net_tables.proofs.Common.{AreOriginals, Chip, IsBlank, IsInside, None, [], index_of, length, map, nothing, original_of, slice_index_or, take, ◌*◌, ◌≡◌}
use Rattle.net_tables.proofs.gather.add_nets.Given as goal

-- the boards are clear, and the lists have the original blocks of the nets that were read
abbrev pub invariant-loop-net : goal.invariant-loop-net
invariant-loop-net l =
    IsBlank l.plans.machine.now None l.ports
    × IsBlank l.plans.machine.now nothing l.routes
    × (length l.lists ≡ l.plans.machine.now.width * l.plans.machine.now.height)
    × ((c : Chip) → IsInside l.plans.machine.now c →
    AreOriginals l.plans.machine.now c (take l.net-index l.plans.nets.now) (map original_of (slice_index_or l.lists (index_of l.plans.machine.now c) [])))
