-- A list, and for how many items to come there is room.
use Rattle.std.specs.Prelude.{ℕ, List}

pub record WithRoom (T : Type 0) : Type 0 where
  pub items : List T
  pub spare : ℕ
