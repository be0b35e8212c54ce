use Rattle.link_detours.proofs.Common.{All, AreInPlaceOrder, link_place, take, ◌<◌}
use Rattle.link_detours.proofs.trims.is_in_order.Given as goal

-- the edges that were looked at are in order, and before the least place that may come
abbrev pub invariant-loop-edge : goal.invariant-loop-edge
invariant-loop-edge l =
    AreInPlaceOrder l.edges.machine.now (take l.edge-index l.edges.list.now) × All (λ e. link_place l.edges.machine.now e.chip e.dir < l.least) (take l.edge-index l.edges.list.now)
