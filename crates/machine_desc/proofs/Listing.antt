-- A table that tells which things are listed, as the list is read.
use Rattle.machine_desc.proofs.Common.{Bool, Chip, Edge, Grid, IsCoreOn, IsEdgeOn, IsOn, List, Spot, TellsChips, TellsCores, TellsLinks, TellsListed, arith, cases_eq, cases_lt, chip_eq, chip_eq_same}
use Rattle.machine_desc.proofs.Common.{chip_eq_true, chip_place, core_place, edge_eq, edge_place, false, false_from_ne_true, get_or, get_or-replicate, get_or-set_other, get_or-set_same, get_or_past}
use Rattle.machine_desc.proofs.Common.{inl, inr, length, length-replicate, list_any, list_any_more, or-false, or_right, replicate, same_from_place, set, spot_eq, spot_eq_same, spot_eq_true, take}
use Rattle.machine_desc.proofs.Common.{true, ℕ, ◌+◌, ◌<◌, ◌||◌, ◌≡◌, ◌≤◌}
use Rattle.machine_desc.proofs.Same.{same_chip, same_spot, same_edge, same_dir, below_six, edge_eq-true, edge_eq_self}

-- a clear table tells of the empty list
pub Tells-none : {K : Type 0} (HasPlace : K → Type 0) (place_of : K → ℕ) (same : K → K → Bool) (n : ℕ) (table : List Bool) (listed : List K) →
    table ≡ replicate n false → TellsListed HasPlace place_of same table (take 0 listed)
Tells-none HasPlace place_of same n table listed e = grind (arith, get_or, cases_lt, get_or-replicate, length-replicate, get_or_past)

module _ {K : Type 0} (HasPlace : K → Type 0) (place_of : K → ℕ) (same : K → K → Bool)
    (same_true : (a b : K) → same a b ≡ true → a ≡ b) (same_self : (a : K) → same a a ≡ true) where
  -- one more thing is read, and its place written
  pub Tells-more : (apart : (a b : K) → HasPlace a → HasPlace b → place_of a ≡ place_of b → a ≡ b)
      (table : List Bool) (listed : List K) (i p : ℕ) (d : K) → i < length listed → p ≡ place_of (get_or listed i d) →
      HasPlace (get_or listed i d) → p < length table → TellsListed HasPlace place_of same table (take i listed) →
      TellsListed HasPlace place_of same (set table p true) (take (i + 1) listed)
  Tells-more apart table listed i p d within at placed below told k has =
      let x : K = get_or listed i d in
      let more : list_any (same k) (take (i + 1) listed) ≡ (list_any (same k) (take i listed) || same k x) =
      list_any_more (same k) listed i d within in
      elim (cases_eq (place_of k) p) [
        | inl here ↦ grind (arith, get_or-set_same table p true false below, get_or, or_right)
        | inr other ↦ grind (arith, get_or-set_other table p (place_of k) true false other, or-false (list_any (same k) (take i listed)), false_from_ne_true)
      ]

  -- a thing without a place is read, and nothing written
  pub Tells-skip : (table : List Bool) (listed : List K) (i : ℕ) (d : K) → i < length listed →
      (HasPlace (get_or listed i d) → ⊥) → TellsListed HasPlace place_of same table (take i listed) →
      TellsListed HasPlace place_of same table (take (i + 1) listed)
  Tells-skip table listed i d within none told k has = grind (arith, get_or listed i d, list_any_more (same k) listed i d within, or-false (list_any (same k) (take i listed)), false_from_ne_true)

pub chips_apart : (grid : Grid) (a b : Chip) → IsOn grid a → IsOn grid b → chip_place grid a ≡ chip_place grid b → a ≡ b
chips_apart grid a b p q e =
    let same = same_from_place a.x a.y b.x b.y grid.height p.1 q.1 e in same_chip a b same.0 same.1

pub spots_apart : (grid : Grid) (a b : Spot) → IsCoreOn grid a → IsCoreOn grid b → core_place grid a ≡ core_place grid b → a ≡ b
spots_apart grid a b p q e = grind (arith, same_from_place, same_spot, chips_apart)

pub edges_apart : (grid : Grid) (a b : Edge) → IsEdgeOn grid a → IsEdgeOn grid b → edge_place grid a ≡ edge_place grid b → a ≡ b
edges_apart grid a b p q e = grind (arith, same_from_place, below_six, same_edge, chips_apart, same_dir)

pub TellsChips-more : (grid : Grid) (table : List Bool) (listed : List Chip) (i p : ℕ) (d : Chip) → i < length listed → p ≡ chip_place grid (get_or listed i d) →
    IsOn grid (get_or listed i d) → p < length table → TellsChips grid table (take i listed) →
    TellsChips grid (set table p true) (take (i + 1) listed)
TellsChips-more grid = Tells-more (IsOn grid) (chip_place grid) chip_eq chip_eq_true chip_eq_same (chips_apart grid)

pub TellsCores-more : (grid : Grid) (table : List Bool) (listed : List Spot) (i p : ℕ) (d : Spot) → i < length listed → p ≡ core_place grid (get_or listed i d) →
    IsCoreOn grid (get_or listed i d) → p < length table → TellsCores grid table (take i listed) →
    TellsCores grid (set table p true) (take (i + 1) listed)
TellsCores-more grid = Tells-more (IsCoreOn grid) (core_place grid) spot_eq spot_eq_true spot_eq_same (spots_apart grid)

pub TellsCores-skip : (grid : Grid) (table : List Bool) (listed : List Spot) (i : ℕ) (d : Spot) → i < length listed →
    18 ≤ (get_or listed i d).core → TellsCores grid table (take i listed) → TellsCores grid table (take (i + 1) listed)
TellsCores-skip grid table listed i d within high =
    Tells-skip (IsCoreOn grid) (core_place grid) spot_eq spot_eq_true spot_eq_same table listed i d within (λ p. absurd (omega (arith, p.1)))

pub TellsLinks-more : (grid : Grid) (table : List Bool) (listed : List Edge) (i p : ℕ) (d : Edge) → i < length listed → p ≡ edge_place grid (get_or listed i d) →
    IsEdgeOn grid (get_or listed i d) → p < length table → TellsLinks grid table (take i listed) →
    TellsLinks grid (set table p true) (take (i + 1) listed)
TellsLinks-more grid = Tells-more (IsEdgeOn grid) (edge_place grid) edge_eq edge_eq-true edge_eq_self (edges_apart grid)
