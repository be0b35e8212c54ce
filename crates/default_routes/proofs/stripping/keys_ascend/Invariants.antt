-- The rows passed have the mask, and their keys ascend, all below the least that may come.
use Rattle.default_routes.proofs.Common.{All, AllPairs, Row, take, ◌<◌, ◌≡◌}
use Rattle.default_routes.proofs.stripping.keys_ascend.Given as goal

abbrev pub invariant-loop-row : goal.invariant-loop-row
invariant-loop-row l =
    AllPairs (λ (r s : Row). r.block.key < s.block.key) (take l.row-index l.rows)
    × All (λ (r : Row). (r.block.key < l.least) × (r.block.mask ≡ l.mask)) (take l.row-index l.rows)
