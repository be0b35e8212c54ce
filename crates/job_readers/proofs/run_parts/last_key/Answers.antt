use Rattle.job_readers.proofs.Common.{Graph, IsValidGraph, IsValidNet, Net, Some, ap, arith, keys_of-at, length, props, slice_get, ℕ, ∥∥₁_elim, ◌-◌, ◌<◌, ◌≡◌, ◌≤◌}
use Rattle.job_readers.proofs.RunSteps.{holds_at}
use Rattle.job_readers.proofs.run_parts.last_key.Goals as goal

keys_at : (graph : Graph) (i : ℕ) (net : Net) → ∥ IsValidGraph graph ∥₁ → i < length graph.nets → slice_get graph.nets i ≡ Some net → (1 ≤ net.keys) × (net.keys ≤ 4294967296)
keys_at graph i net one below at =
    ∥∥₁_elim one (hlevel props) (λ valid.
    let it = holds_at (IsValidNet (length graph.vertices)) graph.nets i net valid.nets below at in (it.some_key, it.few_keys))

pub overflow_sub-result : goal.overflow_sub-result
overflow_sub-result c = (keys_at c.args.valid.now.graph.now c.args.net c.get.result.now c.args.valid.now.valid c.requires c.get.ensures).0

pub returns-clause-last : goal.returns-clause-last
returns-clause-last c = ap (λ k. k - 1) (keys_of-at c.args.valid.now.graph.now.nets c.args.net c.get.result.now c.get.ensures)

pub returns-clause-key : goal.returns-clause-key
returns-clause-key c =
    let keys = keys_at c.args.valid.now.graph.now c.args.net c.get.result.now c.args.valid.now.valid c.requires c.get.ensures in
    omega (arith, keys.0, keys_of-at c.args.valid.now.graph.now.nets c.args.net c.get.result.now c.get.ensures)

pub returns-clause-small : goal.returns-clause-small
returns-clause-small c =
    let keys = keys_at c.args.valid.now.graph.now c.args.net c.get.result.now c.args.valid.now.valid c.requires c.get.ensures in
    omega (arith, keys.0, keys.1)
