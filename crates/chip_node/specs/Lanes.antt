-- For how many copies more a lane has room.
use Rattle.std.specs.Prelude.{ℕ, ◌-◌, ◌/◌, nat_lt, if◌then◌else◌}

-- As many as its vector, of so many items of which some have left, has room for behind the last. Where more than half of the items have
-- left, their room counts, too.
abbrev pub spare_of : (capacity items left : ℕ) → ℕ
spare_of capacity items left = if nat_lt (items / 2) left then capacity - (items - left) else capacity - items
