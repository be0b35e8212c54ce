-- Laws of lists of queues, by the options that a look at a place gives.
use Rattle.mesh_core.proofs.Common.{IsNone, List, McCopy, Option, Some, [], arith, drop_front, option_to_list, set, set-slice_get, slice_get, ℕ, ◌++◌, ◌↔◌, ◌≡◌}

-- what a queue is after its front left
pub drop_front-popped : (lists : List (List McCopy)) (i : ℕ) (old new : List McCopy) (front : Option McCopy) → slice_get lists i ≡ Some old →
    old ≡ option_to_list front ++ new → (IsNone front ↔ (old ≡ [])) → set lists i new ≡ drop_front lists i (slice_get lists i)
drop_front-popped lists i old new front here popped none = grind (arith, set-slice_get)
