-- What shares logged in a round, put at the ends of a mesh's lists (this project's own).
use Rattle.std.specs.Prelude.{◌≡◌, ℕ, ◌≤◌, Bool, List, [], length, Some, slice_get}
use Rattle.std.specs.List.{list_any, sum_by}
use Rattle.mesh_run.specs.declared.gathering.MeshLogs.{MeshLogs}
use Rattle.mesh_run.specs.declared.shares.Share.{Share}

-- room for as many items as the shares have room for
pub record HasRoomForLogs (shares : List Share) (l : MeshLogs) : Type 0 where
  pub delivered : sum_by (λ s. s.hold.deliveries.spare) shares ≤ l.delivered.spare
  pub dumped : sum_by (λ s. s.hold.dumps.spare) shares ≤ l.dumped.spare

-- room for all that the shares logged
pub record FitsLogs (shares : List Share) (l : MeshLogs) : Type 0 where
  pub delivered : sum_by (λ s. length s.hold.deliveries.items) shares ≤ l.delivered.spare
  pub dumped : sum_by (λ s. length s.hold.dumps.items) shares ≤ l.dumped.spare

-- a share whose logs are empty again
pub record IsEmptied (before after : Share) : Type 0 where
  pub from : after.from ≡ before.from
  pub to : after.to ≡ before.to
  pub ends : after.hold.ends ≡ before.hold.ends
  pub unsent : after.hold.unsent ≡ before.hold.unsent
  pub dumps : after.hold.dumps.items ≡ []
  pub deliveries : after.hold.deliveries.items ≡ []

abbrev pub AreEmptied : List Share → List Share → Type 0
AreEmptied before after =
    (length after ≡ length before) × ((k : ℕ) (s t : Share) → slice_get before k ≡ Some s → slice_get after k ≡ Some t → IsEmptied s t)

-- whether a copy moved in one of the shares
abbrev pub IsAnyMoved : List Share → Bool → Type 0
IsAnyMoved shares moved = moved ≡ list_any (λ s. s.moved) shares
