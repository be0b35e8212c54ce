-- Covering: which merges are made, one after another (after Mundy, Heathcote, Garside, HPSR 2016; the ties and the
-- pairs are this project's own).
use Rattle.std.specs.Prelude.{◌≡◌, ◌==◌, ℕ, suc, ◌<◌, ◌≤◌, ◌⊎◌, if◌then◌else◌, List, [], ◌∷◌, All, length, map}
use Rattle.std.specs.List.{Contains}
use Rattle.spin_base.specs.declared.routes.Route.{Route}
use Rattle.tern_word.specs.declared.tables.Row.{Row}
use Rattle.cover_merge.specs.Merge.{after, IsMergeSet, IsLegal}
use Rattle.cover_merge.specs.Refinement.{Refines}

-- the places of all rows of the route, which has these bits; places are counted from i
abbrev pub places_of : ℕ → ℕ → List Row → List ℕ
places_of bits i [] = []
places_of bits i (r ∷ rows) = if r.route.bits == bits then i ∷ places_of bits (suc i) rows else places_of bits (suc i) rows

-- the refined set of the rows of a route is no larger than n, and smaller where its number is below that of another
pub record IsNoRival (rows : List Row) (bits other n : ℕ) : Type 0 where
  pub set : List ℕ
  pub refined : Refines rows (places_of bits 0 rows) set
  pub no_larger : length set ≤ n
  pub smaller : 0 < n → bits < other → length set < n

-- the refined set of most places among those of all rows of one route, of equal ones that of the least route
pub record IsLargest (rows : List Row) (set : List ℕ) : Type 0 where
  pub bits : ℕ
  pub refined : Refines rows (places_of bits 0 rows) set
  pub two : 2 ≤ length set
  pub others : (route : Route) → IsNoRival rows route.bits bits (length set)

-- no refined set has two places
abbrev pub HasNoLargest : List Row → Type 0
HasNoLargest rows = (route : Route) → (set : List ℕ) × (Refines rows (places_of route.bits 0 rows) set) × (length set < 2)

-- two rows of one route whose merge is legal
pub record IsLegalPair (rows : List Row) (i j : ℕ) : Type 0 where
  pub set : IsMergeSet rows (i ∷ j ∷ [])
  pub legal : IsLegal rows (i ∷ j ∷ [])

-- the first row behind row i with which it is a legal pair
pub record IsFirstPartner (rows : List Row) (i j : ℕ) : Type 0 where
  pub legal : IsLegalPair rows i j
  pub before : (b : ℕ) → b < j → IsLegalPair rows i b → ⊥

-- no pair is legal
abbrev pub HasNoLegalPair : List Row → Type 0
HasNoLegalPair rows = (i j : ℕ) → IsLegalPair rows i j → ⊥

-- the first legal pair, in order of its first and then its second place
pub record IsFirstLegalPair (rows : List Row) (set : List ℕ) : Type 0 where
  pub i : ℕ
  pub j : ℕ
  pub pair : set ≡ i ∷ j ∷ []
  pub legal : IsLegalPair rows i j
  pub before : (a b : ℕ) → (a < i) ⊎ ((a ≡ i) × (b < j)) → IsLegalPair rows a b → ⊥

-- The chosen merge is that of the largest refined set, and where none has two places that of the first legal pair.
abbrev pub IsChosen : List Row → List ℕ → Type 0
IsChosen rows set = (IsLargest rows set) ⊎ (HasNoLargest rows × IsFirstLegalPair rows set)

-- no merge is chosen
abbrev pub HasNoChosen : List Row → Type 0
HasNoChosen rows = HasNoLargest rows × HasNoLegalPair rows

-- The covered table: the table after chosen merges, one by one, until it has at most target rows or none is chosen;
-- with the sets that were merged, in order, each by places of the table before it.
pub data Covers (target : ℕ) : List Row → List (List ℕ) → List Row → Type 0 where
  short : (rows : List Row) → length rows ≤ target → Covers target rows [] rows
  stuck : (rows : List Row) → target < length rows → HasNoChosen rows → Covers target rows [] rows
  merged : (rows : List Row) (set : List ℕ) (sets : List (List ℕ)) (covered : List Row) → target < length rows → IsChosen rows set
      → Covers target (after rows set) sets covered → Covers target rows (set ∷ sets) covered

-- each row's route is that of a row of the table
abbrev pub HasRoutesOf : List Row → List Row → Type 0
HasRoutesOf table rows = All (λ (r : Row). Contains (map (λ (x : Row). x.route) table) r.route) rows
