use Rattle.link_detours.proofs.Common.{filter, is_live_link, take, ◌≡◌}
use Rattle.link_detours.proofs.edges.live_edges.Given as goal

-- the live ones of the edges so far
abbrev pub invariant-loop-edge : goal.invariant-loop-edge
invariant-loop-edge l = l.live.items ≡ filter (λ e. is_live_link l.ground.machine.now e.chip e.dir) (take l.edge-index l.edges)
