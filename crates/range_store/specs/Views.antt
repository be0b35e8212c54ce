-- What contracts see of a region.
use Rattle.std.specs.Prelude.{ℕ, ◌+◌, ◌<◌, ◌≤◌, List}
use Rattle.range_store.specs.declared.holes.Hole.{Hole}
use Rattle.range_store.specs.Regions.{NoneIsFree}

-- its size, its holes in order, and for how many more holes there is room
pub record Region : Type 0 where
  pub size : ℕ
  pub holes : List Hole
  pub spare : ℕ

-- A range may be given back: it has a place or more, it lies in the region, none of its places is free, and there is room for one more hole.
pub record CanGive (region : Region) (place size : ℕ) : Type 0 where
  pub some : 0 < size
  pub within : place + size ≤ region.size
  pub taken : NoneIsFree region.holes place size
  pub spare : 0 < region.spare
