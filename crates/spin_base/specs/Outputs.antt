-- The outputs of a router, and the routes that name them.
use Rattle.std.specs.Prelude.{◌≡◌, ◌≢◌, ℕ, ◌+◌, ◌-◌, ◌<◌, Bool, List, ◌++◌, map, filter, IsTrue, ◌==◌, nat_lt, if◌then◌else◌}
use Rattle.std.specs.List.{range_with_len}
use Rattle.std.specs.Int.{bit_at}
use Rattle.std.proofs.Common.{lit<}
use Rattle.spin_base.specs.declared.routes.Out.{Out}
use Rattle.spin_base.specs.declared.routes.Out.TheVariants.{Link, Core}
use Rattle.spin_base.specs.declared.routes.Route.{Route}
use Rattle.spin_base.specs.Links.{dir_number, dir_at, all_dirs}

-- Bits 0 to 5 of a route are the links, bits 6 to 23 the cores 0 to 17 (SpiNNaker datasheet).
abbrev pub out_number : Out → ℕ
out_number (Link d) = dir_number d
out_number (Core p) = 6 + p

-- an output that has a bit: a link, or one of the cores 0 to 17
abbrev pub IsOutput : Out → Type 0
IsOutput (Link d) = Unit {0}
IsOutput (Core p) = p < 18

-- The output that leads to a spot of its chip: that of the core for a core 0 to 17, and link d for the device on link d, whose
-- number is 18 + d (this project's own).
abbrev pub out_of : ℕ → Out
out_of p = if nat_lt p 18 then Core p else Link (dir_at (p - 18))

-- the links of a chip, in the order of their numbers
unfoldable pub link_outs : List Out
link_outs = map Link all_dirs

-- the cores of a chip, in the order of their numbers
unfoldable pub core_outs : List Out
core_outs = map Core (range_with_len 0 18)

-- the outputs of a chip, in the order of their bits
abbrev pub all_outs : List Out
all_outs = link_outs ++ core_outs

-- A route has an output where the output's bit is 1 (SpiNNaker datasheet).
abbrev pub has : Route → Out → Bool
has r o = bit_at r.bits (out_number o) == 1

-- Each output whose bit is 1 gets one copy (SpiNNaker datasheet), in the order of the bits (this project's own).
abbrev pub outs_of : Route → List Out
outs_of r = filter (has r) all_outs

-- the route that has no output
abbrev pub nothing : Route
nothing = record { bits = 0; within = lit< tt }

-- new has the output and, of all others, those that old has
pub record WithOut (old : Route) (o : Out) (new : Route) : Type 0 where
  pub has_it : IsTrue (has new o)
  pub same_else : (p : Out) → p ≢ o → has new p ≡ has old p
