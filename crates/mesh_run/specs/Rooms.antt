-- Room made in shares, which changes none of the copies that they hold (this project's own).
use Rattle.std.specs.Prelude.{◌≡◌, ℕ, List, length, slice_get, Some}
use Rattle.spin_base.specs.WithRoom.{WithRoom}
use Rattle.spin_base.specs.declared.copies.McCopy.{McCopy}
use Rattle.chip_node.specs.declared.ends.End.{End}
use Rattle.chip_node.specs.declared.ends.End.TheVariants.{Away, Own, Sends, Takes}
use Rattle.mesh_run.specs.declared.shares.Share.{Share}

-- an end with the same copies
abbrev pub SameEnd : End → End → Type 0
SameEnd Away b = b ≡ Away
SameEnd (Own a) b = (l : WithRoom McCopy) × (b ≡ Own l) × (l.items ≡ a.items)
SameEnd (Sends a) b = b ≡ Sends a
SameEnd (Takes a) b = b ≡ Takes a

-- a share with the same copies, and the same actors
pub record SameCopies (before after : Share) : Type 0 where
  pub from : after.from ≡ before.from
  pub to : after.to ≡ before.to
  pub ends_long : length after.hold.ends.items ≡ length before.hold.ends.items
  pub ends : (q : ℕ) (a b : End) → slice_get before.hold.ends.items q ≡ Some a → slice_get after.hold.ends.items q ≡ Some b → SameEnd a b
  pub unsent : after.hold.unsent ≡ before.hold.unsent
  pub dumps : after.hold.dumps.items ≡ before.hold.dumps.items
  pub deliveries : after.hold.deliveries.items ≡ before.hold.deliveries.items

abbrev pub AreSameCopies : List Share → List Share → Type 0
AreSameCopies before after =
    (length after ≡ length before) × ((k : ℕ) (s t : Share) → slice_get before k ≡ Some s → slice_get after k ≡ Some t → SameCopies s t)
