use Rattle.mesh_run.proofs.Common.{HaveSenders, List, Some, router_place, slice_get, ℕ, ◌≡◌}
use Rattle.mesh_run.proofs.homes.set_senders.Given as goal

-- the senders of the outputs so far
abbrev pub invariant-loop-number : goal.invariant-loop-number
invariant-loop-number l =
    (table : List ℕ) → slice_get table (router_place l.index) ≡ Some l.router → HaveSenders l.footing.setup.now table l.index 0 l.fn.homes.items
    → HaveSenders l.footing.setup.now table l.index l.number l.homes.items
