-- The pieces of a table joined by pairs, one route after another, as sPyNNaker's compressor by pairs does. Which block takes in
-- another is this project's own.
use Rattle.std.specs.Prelude.{◌≡◌, ◌==◌, ℕ, ◌+◌, ◌*◌, ◌<◌, ◌^◌, Bool, not, if◌then◌else◌, List, [], ◌∷◌, ◌++◌, All, AllPairs, count_by, filter, fold, map}
use Rattle.std.specs.List.{Contains, list_any}
use Rattle.spin_base.specs.declared.blocks.Block.{Block}
use Rattle.spin_base.specs.declared.chips.Port.TheVariants.{Local}
use Rattle.spin_base.specs.declared.routes.Route.{Route}
use Rattle.tern_word.specs.declared.tables.Row.{Row}
use Rattle.tern_word.specs.SoundTable.{Original, served}
use Rattle.tern_word.specs.Ternary.{merge_two}
use Rattle.block_cuts.specs.Cuts.{meets}
use Rattle.table_rules.specs.declared.rows.RoutedBlock.{RoutedBlock}
use Rattle.table_rules.specs.Made.{row_blocks}

-- a block with its route, of whose packets nothing is told
abbrev pub row_by : Route → Block → RoutedBlock
row_by route block = record { block = block; route = route; port = Local }

-- the pieces of a table: the aliases of its rows, each with its row's route
abbrev pub pieces_of : List Row → List RoutedBlock
pieces_of rows = map (λ (o : Original). row_by o.route o.block) (served rows)

-- whether a piece has the route
abbrev pub goes_by : Route → RoutedBlock → Bool
goes_by route piece = piece.route.bits == route.bits

-- the blocks of the pieces of a route, and the pieces of other routes
abbrev pub own_blocks : Route → List RoutedBlock → List Block
own_blocks route pieces = row_blocks (filter (goes_by route) pieces)

abbrev pub others : Route → List RoutedBlock → List RoutedBlock
others route pieces = filter (λ (p : RoutedBlock). not (goes_by route p)) pieces

-- whether the block meets one of the pieces
abbrev pub meets_one : List RoutedBlock → Block → Bool
meets_one pieces block = list_any (λ (p : RoutedBlock). meets block p.block) pieces

-- The blocks with one more: the first of them whose join with it meets none of the pieces behind takes it in. Where there is none,
-- it stands behind them.
abbrev pub with_block : List RoutedBlock → List Block → Block → List Block
with_block behind [] block = block ∷ []
with_block behind (b ∷ blocks) block = if meets_one behind (merge_two b block) then b ∷ with_block behind blocks block else merge_two b block ∷ blocks

abbrev pub joined_blocks : List RoutedBlock → List Block → List Block
joined_blocks behind blocks = fold (with_block behind) [] blocks

-- The rows of the routes, in order: the blocks of the first, joined where they meet no piece of the others, and behind them the rows
-- of the others.
abbrev pub rows_by_routes : List Route → List RoutedBlock → List RoutedBlock
rows_by_routes [] pieces = []
rows_by_routes (route ∷ routes) pieces = map (row_by route) (joined_blocks (others route pieces) (own_blocks route pieces)) ++ rows_by_routes routes (others route pieces)

-- what a route weighs: the number of its pieces, and of routes with as many the bits
abbrev pub weight_of : List RoutedBlock → Route → ℕ
weight_of pieces route = count_by (goes_by route) pieces * 2 ^ 24 + route.bits

-- the routes of the pieces, each once, by their weights
pub record AreRoutesOf (pieces : List RoutedBlock) (routes : List Route) : Type 0 where
  pub each : All (λ (p : RoutedBlock). Contains routes p.route) pieces
  pub only : All (λ (r : Route). Contains (map (λ (p : RoutedBlock). p.route) pieces) r) routes
  pub rising : AllPairs (λ (r s : Route). weight_of pieces r < weight_of pieces s) routes

-- The rows of the pieces of the routes that own ones have. Pieces of other routes give no row, and no block that is joined meets one.
pub record AreJoinedRows (own pieces rows : List RoutedBlock) : Type 0 where
  pub routes : List Route
  pub by_weight : AreRoutesOf own routes
  pub are : rows ≡ rows_by_routes routes pieces
