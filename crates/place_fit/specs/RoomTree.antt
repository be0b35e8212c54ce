-- A tree over the rooms of a row, by which the first room that is great enough is found.
use Rattle.std.specs.Prelude.{◌≡◌, ℕ, ◌+◌, ◌*◌, ◌^◌, ◌<◌, ◌≤◌, max, List, length, drop, slice_index}
use Rattle.place_fit.specs.declared.rooms.Rooms.TheInside.{Inside}

-- the rooms themselves
abbrev pub leaves_of : Inside → List ℕ
leaves_of r = drop r.leaves r.tree.items

-- each node has the greater of its children's rooms
pub record IsTree (leaves : ℕ) (tree : List ℕ) : Type 0 where
  pub long : length tree ≡ 2 * leaves
  pub greatest : (q : ℕ) → 1 ≤ q → q < leaves → slice_index tree q ≡ max (slice_index tree (2 * q)) (slice_index tree (2 * q + 1))

pub record IsRoomTree (r : Inside) : Type 0 where
  pub few : r.levels ≤ 12
  pub leaves : r.leaves ≡ 2 ^ r.levels
  pub is_tree : IsTree r.leaves r.tree.items
