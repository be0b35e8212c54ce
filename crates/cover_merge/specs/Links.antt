-- The rows of one route, one after another. They save going over rows of other routes.
use Rattle.std.specs.Prelude.{◌≡◌, ◌==◌, ℕ, ◌+◌, ◌<◌, ◌≤◌, List, All, length, map, slice_index, slice_index_or}
use Rattle.std.specs.List.{position_or_len}
use Rattle.tern_word.specs.declared.tables.Row.{Row}

-- the place of the route of these bits among the routes, and their number where it is not there
unfoldable pub place_of_route : List ℕ → ℕ → ℕ
place_of_route routes bits = position_or_len (λ r. r == bits) routes

-- each route stands once among the routes
abbrev pub IsEachOnce : List ℕ → Type 0
IsEachOnce routes = (c : ℕ) → c < length routes → place_of_route routes (slice_index routes c) ≡ c

-- the route of each row is one of the routes, which are no more than the rows
pub record AreRoutes (rows : List Row) (routes : List ℕ) : Type 0 where
  pub found : All (λ (r : Row). place_of_route routes r.route.bits < length routes) rows
  pub no_more : length routes ≤ length rows

-- the route of these bits is one of the new routes, and each that was there is there
pub record IsRouteAdded (bits : ℕ) (old new : List ℕ) : Type 0 where
  pub found : place_of_route new bits < length new
  pub stays : (other : ℕ) → place_of_route old other < length old → place_of_route new other < length new
  pub one_more : length new ≤ length old + 1
  pub once : IsEachOnce old → IsEachOnce new

-- Each row's route by its place among the routes.
pub record AreNumbers (routes : List ℕ) (rows : List Row) (numbers : List ℕ) : Type 0 where
  pub one_each : length numbers ≡ length rows
  pub each : (k : ℕ) (d : Row) → k < length rows → slice_index numbers k ≡ place_of_route routes (slice_index_or rows k d).route.bits
  pub below : All (λ c. c < length routes) numbers

-- the first place from `from` on with this number, and the length of the list or more where there is none
pub record IsAhead (numbers : List ℕ) (from number place : ℕ) : Type 0 where
  pub reached : from ≤ place
  pub same : place < length numbers → slice_index numbers place ≡ number
  pub none : (j : ℕ) → from ≤ j → j < place → j < length numbers → slice_index numbers j ≡ number → ⊥

-- the next row of the route of row k is that at the place, and there is none where the place is not in the table
pub record IsNextOfRoute (rows : List Row) (k place : ℕ) : Type 0 where
  pub behind : k < place
  pub same : (d : Row) → place < length rows → (slice_index_or rows place d).route.bits ≡ (slice_index_or rows k d).route.bits
  pub between : (j : ℕ) (d : Row) → k < j → j < place → j < length rows → (slice_index_or rows j d).route.bits ≡ (slice_index_or rows k d).route.bits → ⊥

-- the first row of the route of these bits is that at the place, and there is none where the place is not in the table
pub record IsFirstOfRoute (rows : List Row) (bits place : ℕ) : Type 0 where
  pub same : (d : Row) → place < length rows → (slice_index_or rows place d).route.bits ≡ bits
  pub before : (j : ℕ) (d : Row) → j < place → j < length rows → (slice_index_or rows j d).route.bits ≡ bits → ⊥

-- for each row the next of its route
pub record AreNexts (rows : List Row) (nexts : List ℕ) : Type 0 where
  pub one_each : length nexts ≡ length rows
  pub next : (k : ℕ) → k < length rows → IsNextOfRoute rows k (slice_index nexts k)

-- and for each route the first row of it
pub record AreLinks (routes : List ℕ) (rows : List Row) (nexts heads : List ℕ) : Type 0 where
  pub next : AreNexts rows nexts
  pub one_each : length heads ≡ length routes
  pub head : (c : ℕ) → c < length routes → IsFirstOfRoute rows (slice_index routes c) (slice_index heads c)
