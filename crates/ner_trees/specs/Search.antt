-- The search for the chip of a tree that is nearest to a target, in a window round the target.
use Rattle.std.specs.Prelude.{◌≡◌, ℕ, ◌+◌, ◌-◌, ◌*◌, ◌%◌, ◌<◌, ◌≤◌, Bool, true, false, nat_lt, if◌then◌else◌, List, ◌++◌, Option, Some, None, All, Any, Contains, ◌⊎◌, ◌↔◌, slice_index_or}
use Rattle.std.specs.Option.{IfSome, IsSomeAnd}
use Rattle.spin_base.specs.{declared.chips.Chip.Chip, declared.chips.Dir.Dir}
use Rattle.machine_desc.specs.{declared.trees.Edge.Edge, Description.Description, Live.chip_at, Live.index_of, Live.IsInside, RoutingTree.end_of, RoutingTree.IsTreeChip}
use Rattle.ner_trees.specs.{declared.searches.SixPlaces.SixPlaces, Geometry.distance_of, Growth.IsNotFarther, Growth.end_of_walk, Growth.links_of, Growth.next_of}

-- what a table with a place for each chip says of a chip
abbrev pub is_on : Description → List Bool → Chip → Bool
is_on m on c = slice_index_or on (index_of m c) false

-- and of the chip of two coordinates, where there is one
abbrev pub is_there : Description → List Bool → Option Chip → Bool
is_there m on None = false
is_there m on (Some c) = is_on m on c

-- the table has the chips of a list, and no others
abbrev pub AreOn : Description → List Bool → List Chip → Type 0
AreOn m on chips = All (λ c. IsInside m c × (is_on m on c ≡ true)) chips

abbrev pub AreAllOn : Description → List Bool → List Chip → Type 0
AreAllOn m on chips = (c : Chip) → IsInside m c → is_on m on c ≡ true → ∥ Contains chips c ∥₁

-- the table has the chips of the tree
abbrev pub TellsTree : Description → Chip → List Bool → List Edge → Type 0
TellsTree m root on tree = (c : Chip) → IsInside m c → (is_on m on c ≡ true) ↔ IsTreeChip m root tree c

-- a target on the machine, and a table that has the chips of the tree in which its nearest chip is looked for
pub record CanSearch (m : Description) (root : Chip) (on : List Bool) (tree : List Edge) (target : Chip) : Type 0 where
  pub inside : IsInside m target
  pub on_is : TellsTree m root on tree

-- a table that has, beside the chips of another, those where links lead
abbrev pub IsMarkedBy : Description → List Bool → List Bool → List Edge → Type 0
IsMarkedBy m old new links =
    (c : Chip) → IsInside m c → (is_on m new c ≡ true) ↔ ((is_on m old c ≡ true) ⊎ Any (λ e. end_of m e ≡ Some c) links)

-- the place on an axis that is so far past the place a radius before the centre, where there is one
abbrev pub place_at : Bool → ℕ → ℕ → ℕ → ℕ → Option ℕ
place_at true places centre radius offset = Some ((centre + places * 20 + offset - radius) % places)
place_at false places centre radius offset =
    if nat_lt (centre + offset) radius then None
    else (if nat_lt (centre + offset - radius) places then Some (centre + offset - radius) else None)

-- the chip at offsets from the corner of the window of so many chips to each side of the centre
unfoldable pub offset_chip : Description → Chip → ℕ → ℕ → ℕ → Option Chip
offset_chip m centre radius column row = chip_at (place_at m.wrap m.width centre.x radius column) (place_at m.wrap m.height centre.y radius row)

abbrev pub AtOffsets : Description → Chip → ℕ → ℕ → ℕ → Chip → Type 0
AtOffsets m t radius column row c = offset_chip m t radius column row ≡ Some c

-- the chips so many steps along each of the six sides of the ring of chips that are so many links from the centre
abbrev pub AtStep : Description → Chip → ℕ → ℕ → Chip → Type 0
AtStep m t radius step c =
    AtOffsets m t radius 0 step c ⊎ (AtOffsets m t radius step 0 c ⊎ (AtOffsets m t radius step (radius + step) c
    ⊎ (AtOffsets m t radius (radius + step) step c ⊎ (AtOffsets m t radius (radius + step) (2 * radius) c ⊎ AtOffsets m t radius (2 * radius) (radius + step) c))))

-- where these six chips stand along an axis: at the first place of the window, at the step, as far past the middle, or at the last
pub record AreSixPlaces (wrap : Bool) (places centre radius step : ℕ) (six : SixPlaces) : Type 0 where
  pub first : six.first ≡ place_at wrap places centre radius 0
  pub at_step : six.step ≡ place_at wrap places centre radius step
  pub middle : six.middle ≡ place_at wrap places centre radius (radius + step)
  pub last : six.last ≡ place_at wrap places centre radius (2 * radius)
  pub first_inside : IfSome six.first (λ n. n < places)
  pub step_inside : IfSome six.step (λ n. n < places)
  pub middle_inside : IfSome six.middle (λ n. n < places)
  pub last_inside : IfSome six.last (λ n. n < places)

-- a chip that the table has, from which the target is at most so many links away
pub record IsOnWithin (m : Description) (on : List Bool) (t : Chip) (radius : ℕ) (c : Chip) : Type 0 where
  pub inside : IsInside m c
  pub on_it : is_on m on c ≡ true
  pub near : distance_of m c t ≤ radius

-- the nearest of these
abbrev pub IsNearestOn : Description → List Bool → Chip → ℕ → Chip → Type 0
IsNearestOn m on t radius c = IsOnWithin m on t radius c × ((e : Chip) → IsOnWithin m on t radius e → IsNotFarther m t c e)

-- no chip that the table has is nearer than so many links
abbrev pub IsNoneNearer : Description → List Bool → Chip → ℕ → Type 0
IsNoneNearer m on t radius = (e : Chip) → IsInside m e → is_on m on e ≡ true → radius ≤ distance_of m e t

-- What a search has found comes before this chip, in the order of nearness.
abbrev pub IsFoundBefore : Description → Chip → Option Chip → Chip → Type 0
IsFoundBefore m t best e = IsSomeAnd best (λ c. IsNotFarther m t c e)

-- what a search has found, once it has looked at some chips more
pub record IsBetter (m : Description) (on : List Bool) (t : Chip) (radius : ℕ) (looked_at : Chip → Type 0) (best result : Option Chip) : Type 0 where
  pub keeps : (e : Chip) → IsFoundBefore m t best e → IsFoundBefore m t result e
  pub has : (e : Chip) → looked_at e → IsOnWithin m on t radius e → IsFoundBefore m t result e

-- a walk, cut at the last of its chips that the table has
pub record IsCutAt (m : Description) (on : List Bool) (near : Chip) (walk : List Dir) (start : Chip) (added : List Edge) : Type 0 where
  pub passed : List Dir
  pub rest : List Dir
  pub walk_is : walk ≡ passed ++ rest
  pub start_is : end_of_walk m near passed ≡ start
  pub start_inside : IsInside m start
  pub start_on : is_on m on start ≡ true
  pub added_is : added ≡ links_of m start rest
  pub added_inside : All (λ e. IsInside m e.chip) added
  pub added_off : All (λ e. is_on m on (next_of m e.chip e.dir) ≡ false) added

-- a number that orders chips by how near they are to a target: the links from there to the target, then the index, which is below 4096
abbrev pub nearness : Description → Chip → Chip → ℕ
nearness m t c = distance_of m c t * 4096 + index_of m c

-- the least of these numbers, of the chips of a tree
pub record IsLeastNearness (m : Description) (root : Chip) (tree : List Edge) (t : Chip) (least : ℕ) : Type 0 where
  pub chip : Chip
  pub on : IsTreeChip m root tree chip
  pub is : least ≡ nearness m t chip
  pub first : (e : Chip) → IsTreeChip m root tree e → least ≤ nearness m t e
