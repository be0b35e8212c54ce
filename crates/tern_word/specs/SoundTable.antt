-- Tables of a chip whose rows stand for original blocks: when they are sound, and which blocks they serve.
use Rattle.std.specs.Prelude.{◌≤◌, List, All, AllPairs, map}
use Rattle.std.specs.List.{flat_map}
use Rattle.std.specs.List.Sorted.{IsPermutation}
use Rattle.spin_base.specs.declared.blocks.Block.{Block}
use Rattle.spin_base.specs.declared.chips.Port.{Port}
use Rattle.spin_base.specs.declared.routes.Route.{Route}
use Rattle.tern_word.specs.declared.tables.Alias.{Alias}
use Rattle.tern_word.specs.declared.tables.Row.{Row}
use Rattle.tern_word.specs.Ternary.{Intersects, LiesIn, generality}

-- the block meets no alias of the row
abbrev pub Misses : Block → Row → Type 0
Misses b r = All (λ (a : Alias). ¬ (Intersects b a.block)) r.aliases

-- each alias lies inside the row's block
abbrev pub HoldsItsAliases : Row → Type 0
HoldsItsAliases r = All (λ (a : Alias). LiesIn a.block r.block) r.aliases

-- the rows do not fall in generality
abbrev pub IsOrdered : List Row → Type 0
IsOrdered rows = AllPairs (λ (r s : Row). generality r.block ≤ generality s.block) rows

-- A table is sound where its rows are in order of generality, each alias lies inside its row's block, and no
-- earlier row's block meets an alias (this project's own, after Mundy, Heathcote, Garside, HPSR 2016).
pub record IsSound (rows : List Row) : Type 0 where
  pub ordered : IsOrdered rows
  pub inside : All HoldsItsAliases rows
  pub unmet : AllPairs (λ (r s : Row). Misses r.block s) rows

-- an original block of a chip: the keys of a net, the port at which its packets arrive, and their outputs
pub record Original : Type 0 where
  pub block : Block
  pub port : Port
  pub route : Route

-- the aliases of a row, each with the row's route
abbrev pub served_by : Row → List Original
served_by r = map (λ (a : Alias). record { block = a.block; port = a.port; route = r.route }) r.aliases

-- the aliases of all rows, each with its row's route
abbrev pub served : List Row → List Original
served rows = flat_map served_by rows

-- A table serves a list of original blocks where its aliases, each with its row's route, are that list up to
-- order (this project's own).
abbrev pub Serves : List Row → List Original → Type 0
Serves rows originals = IsPermutation originals (served rows)
