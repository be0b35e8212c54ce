-- What is read off eight comparisons made at once.
use Rattle.std.specs.Prelude.{ℕ, if◌then◌else◌, ◌==◌, List, Option, find}
use Rattle.std.specs.Option.{option_map}
use Rattle.std.specs.Int.{w64, trailing_zeros}
use Rattle.spin_base.specs.declared.routes.Route.{Route}
use Rattle.spin_base.specs.declared.blocks.Entry.{Entry}
use Rattle.spin_base.specs.Lookup.{matches}

-- the place of the lowest bit that is set, and 8 where none is
abbrev pub first_set : ℕ → ℕ
first_set mask = if mask == 0 then 8 else trailing_zeros w64 mask

-- the route of the first entry that matches the key
abbrev pub first_route : List Entry → ℕ → Option Route
first_route entries key = option_map (λ e. e.route) (find (λ (e : Entry). matches e key) entries)
