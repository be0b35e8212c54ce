-- What a list ends as, where its items are lent to be written.
use Rattle.std.specs.Prelude.{ℕ, List, length, slice_set}
use Rattle.std.specs.List.{refill}
use Rattle.std.specs.Borrow.{Lends, Fml, RattleType, MutBor, Array}
use Rattle.spin_base.specs.contracts.lists.Seq.{the_row}

module _ (T : RattleType) (list : MutBor (List T.Denot)) where
  -- the list with the last value written at place i
  abbrev pub lends_item : ℕ → MutBor T.Denot → Fml
  lends_item i r = Lends (the_row T) T list r (slice_set list.now i)

  -- the list of the items that the slice shows last
  abbrev pub lends_slice : MutBor (List T.Denot) → Fml
  lends_slice r = Lends (the_row T) (Array T 0) list r (refill (length list.now) list.now)
