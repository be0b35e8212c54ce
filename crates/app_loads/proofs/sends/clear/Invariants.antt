use Rattle.app_loads.proofs.Common.{Contains, IsSameBeside, Some, [], slice_get, take, ℕ, ◌≡◌}
use Rattle.app_loads.proofs.sends.clear.Given as goal

-- the queues so far are empty
abbrev pub invariant-loop-source : goal.invariant-loop-source
invariant-loop-source l = record {
  beside : IsSameBeside l.sources l.fn.unsent l.unsent;
  empty : (v : ℕ) → Contains (take l.source-index l.sources) v → slice_get l.unsent v ≡ Some [];
}
