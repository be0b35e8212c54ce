-- What the shares so far have logged.
use Rattle.mesh_run.proofs.Common.{AreEmptied, Bool, IsAnyMoved, IsEmptied, List, MeshLogs, Share, arith, drop, flat_map, get_or, get_or_from_slice_get, length, list_any, slice_get_within, sum_by}
use Rattle.mesh_run.proofs.Common.{take, take_all, ℕ, ◌++◌, ◌≡◌, ◌≤◌}
use Rattle.mesh_run.proofs.Going.{GoneTo, gone_all}

-- what the shares before a place logged was gathered, and there is room for what the others did
pub record GatheredTo (old now : List Share) (n : ℕ) (start logs : MeshLogs) (moved : Bool) : Type 0 where
  pub gone : GoneTo IsEmptied old now n
  pub delivered : logs.delivered.items ≡ start.delivered.items ++ flat_map (λ s. s.hold.deliveries.items) (take n old)
  pub dumped : logs.dumped.items ≡ start.dumped.items ++ flat_map (λ s. s.hold.dumps.items) (take n old)
  pub delivered_room : sum_by (λ s. length s.hold.deliveries.items) (drop n old) ≤ logs.delivered.spare
  pub dumped_room : sum_by (λ s. length s.hold.dumps.items) (drop n old) ≤ logs.dumped.spare
  pub moved_are : moved ≡ list_any (λ s. s.moved) (take n old)

pub record Gathered (old now : List Share) (start logs : MeshLogs) (moved : Bool) : Type 0 where
  pub delivered : logs.delivered.items ≡ start.delivered.items ++ flat_map (λ s. s.hold.deliveries.items) old
  pub dumped : logs.dumped.items ≡ start.dumped.items ++ flat_map (λ s. s.hold.dumps.items) old
  pub cleared : AreEmptied old now
  pub moved_are : IsAnyMoved old moved

pub gathered_all : (old now : List Share) (n : ℕ) (start logs : MeshLogs) (moved : Bool) → GatheredTo old now n start logs moved → length now ≤ n → Gathered old now start logs moved
gathered_all old now n start logs moved so_far past = grind (arith, take_all n old (omega (arith, (so_far.gone.long), past)), get_or_from_slice_get, get_or, gone_all, slice_get_within)
