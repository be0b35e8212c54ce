-- The table of vertices, as it is made.
use Rattle.mesh_core.proofs.Common.{All, All-at, All-head, All-tail, AllPairs, AllPairs-apart, Bool, Description, IsInside, IsSite, IsSpotPlace, List, None, Option, Some, Spot, TellsVertices, [], ap}
use Rattle.mesh_core.proofs.Common.{arith, cases_eq, cond, false, get_or, get_or-replicate, get_or-take, get_or_default, get_or_from_slice_get, index_below, length, length-map, length-replicate}
use Rattle.mesh_core.proofs.Common.{length-set, length-take-le, length_le_from_apart, live_inside, map, position_from, position_from-zero, refl, replicate, rules, same_index, same_spot, set}
use Rattle.mesh_core.proofs.Common.{site_parts, slice_get, slice_get-get_or, slice_get-mapped, slice_get-set_other, slice_get-set_same, slice_get_there, spot_eq, spot_eq_same, spot_eq_true}
use Rattle.mesh_core.proofs.Common.{spot_place, subst, sym, take, take_more, true, vertex_at, ℕ, ◌*◌, ◌++◌, ◌+◌, ◌<◌, ◌∙◌, ◌∷◌, ◌≡◌, ◌≢◌, ◌≤◌}
use Rattle.mesh_core.proofs.Ways.{none_from, vertex_at_stands}

-- a site is one of the 24 spots of a chip of the grid
pub site_inside : (m : Description) (s : Spot) → IsSite m s → IsInside m s.chip × (s.core < 24)
site_inside m s h = let parts = site_parts m s h in (live_inside m s.chip parts.0, parts.1)

-- spots of one place are one spot
pub same_spot_place : (m : Description) (a b : Spot) → IsInside m a.chip → IsInside m b.chip → a.core < 24 → b.core < 24 → spot_place m a ≡ spot_place m b → a ≡ b
same_spot_place m a b in_a in_b small_a small_b e = grind (arith, same_spot a b (same_index m a.chip b.chip in_a in_b (omega arith)) (omega arith), same_index m a.chip b.chip in_a in_b (omega arith))

pub spot_place-below : (m : Description) (s : Spot) → IsInside m s.chip → s.core < 24 → spot_place m s < 24 * (m.width * m.height)
spot_place-below m s inside small = omega (arith, index_below m s.chip inside)

-- vertices on different sites are at different places of the table of spots
pub few_sites : (m : Description) (spots : List Spot) → AllPairs (λ a b. a ≢ b) spots → All (IsSite m) spots → length spots ≤ 24 * (m.width * m.height)
few_sites m spots different sites = subst (λ l. l ≤ 24 * (m.width * m.height)) (length-map spots (spot_place m)) (length_le_from_apart places (24 * (m.width * m.height)) apart below)
  where
    places : List ℕ
    places = map (spot_place m) spots

    at : (k d : ℕ) → k < length (map (spot_place m) spots) → (s : Spot) × (slice_get spots k ≡ Some s) × (IsInside m s.chip × (s.core < 24)) × (get_or (map (spot_place m) spots) k d ≡ spot_place m s)
    at k d low =
        let s = slice_get_there spots k (subst (λ l. k < l) (length-map spots (spot_place m)) low) in
        (s.0, s.1, site_inside m s.0 (All-at (IsSite m) spots k s.0 sites s.1), get_or_from_slice_get places k (spot_place m s.0) d (slice_get-mapped (spot_place m) spots k s.0 s.1))

    below : (k d : ℕ) → k < length (map (spot_place m) spots) → get_or (map (spot_place m) spots) k d < 24 * (m.width * m.height)
    below k d low = let s = at k d low in subst (λ v. v < 24 * (m.width * m.height)) (sym s.3) (spot_place-below m s.0 s.2.0 s.2.1)

    apart : (i j d : ℕ) → i < j → j < length (map (spot_place m) spots) → get_or (map (spot_place m) spots) i d ≢ get_or (map (spot_place m) spots) j d
    apart i j d before low e =
        let a = at i d (omega (arith, before, low)) in
        let b = at j d low in
        let same = same_spot_place m a.0 b.0 a.2.0 b.2.0 a.2.1 b.2.1 (sym a.3 ∙ (e ∙ b.3)) in
        let one = AllPairs-apart spots b.0 different i j (subst (λ (s : Spot). slice_get spots i ≡ Some s) same a.1) b.1 in
        omega (arith, before, one)

-- what a search gives where there is one more item
position-push_other : (t : Spot → Bool) (xs : List Spot) (y : Spot) (n : ℕ) → t y ≡ false → position_from t n (xs ++ y ∷ []) ≡ position_from t n xs
position-push_other t [] y n other = rw other refl
position-push_other t (x ∷ xs) y n other = ap (λ q. cond (t x) (Some n) q) (position-push_other t xs y (n + 1) other)

position-push_new : (t : Spot → Bool) (xs : List Spot) (y : Spot) (n : ℕ) → t y ≡ true → All (λ x. t x ≡ false) xs → position_from t n (xs ++ y ∷ []) ≡ Some (n + length xs)
position-push_new t [] y n same none = rw same (ap Some (omega arith))
position-push_new t (x ∷ xs) y n same none =
    let here : t x ≡ false = All-head (λ z. t z ≡ false) x xs none in
    rw here (position-push_new t xs y (n + 1) same (All-tail (λ z. t z ≡ false) x xs none) ∙ ap Some (omega arith))

pub vertex_at-from : (spots : List Spot) (s : Spot) → vertex_at spots s ≡ position_from (spot_eq s) 0 spots
vertex_at-from spots s = position_from-zero (spot_eq s) spots

pub differs : (a b : Spot) → a ≢ b → spot_eq a b ≡ false
differs a b other = grind (arith, spot_eq_true)

-- a spot that no chip of the machine has is no vertex's
pub vertex_at-nowhere : (m : Description) (spots : List Spot) (s : Spot) → All (IsSite m) spots → IsSpotPlace m s None → vertex_at spots s ≡ None
vertex_at-nowhere m spots s sites nowhere = none_from _ (λ v is. let inside = site_inside m s (All-at (IsSite m) spots v s sites (vertex_at_stands spots s v is)) in nowhere inside.0 inside.1)

-- the vertex on a spot, where one vertex more is known
vertex_at-push_other : (spots : List Spot) (y s : Spot) → s ≢ y → vertex_at (spots ++ y ∷ []) s ≡ vertex_at spots s
vertex_at-push_other spots y s other = grind (arith, vertex_at-from, position-push_other, differs)

vertex_at-push_new : (spots : List Spot) (y s : Spot) → s ≡ y → All (λ x. y ≢ x) spots → vertex_at (spots ++ y ∷ []) s ≡ Some (length spots)
vertex_at-push_new spots y s same different = grind (arith, differs, vertex_at-from, position-push_new, spot_eq_same)

-- what the table has at a spot's place is the vertex there
pub vertex_told : (m : Description) (spots : List Spot) (table : List (Option ℕ)) (s : Spot) (place : ℕ) (x d : Option ℕ) → TellsVertices m spots table →
    IsSpotPlace m s (Some place) → x ≡ get_or table place d → x ≡ vertex_at spots s
vertex_told m spots table s place x d tells at is = grind (arith, get_or_from_slice_get)

-- the table of no vertices
pub TellsVertices-none : (m : Description) (spots : List Spot) → TellsVertices m (take 0 spots) (replicate (24 * (m.width * m.height)) None)
TellsVertices-none m spots = record {
  long = length-replicate {A = Option ℕ} (24 * (m.width * m.height)) None;
  told = λ s inside small.
      let n : ℕ = 24 * (m.width * m.height) in
      let below : spot_place m s < n = spot_place-below m s inside small in
      slice_get-get_or (replicate n None) (spot_place m s) None (rw (length-replicate {A = Option ℕ} n None) below)
      ∙ ap Some (get_or-replicate n (spot_place m s) None None below);
}

-- the table where one vertex more is written
pub TellsVertices-more : (m : Description) (spots : List Spot) (i : ℕ) (y : Spot) (table : List (Option ℕ)) → i < length spots → y ≡ get_or spots i y →
    AllPairs (λ a b. a ≢ b) spots → IsInside m y.chip → y.core < 24 → TellsVertices m (take i spots) table →
    TellsVertices m (take (i + 1) spots) (set table (spot_place m y) (Some i))
TellsVertices-more m spots i y table below is_y different y_inside y_small tells =
    search (rules, length-set, cases_eq, slice_get-set_other, more, vertex_at-push_other, same_spot_place, slice_get-set_same, vertex_at-push_new, earlier, taken)
  where
    more : take (i + 1) spots ≡ take i spots ++ y ∷ []
    more = take_more spots i y below ∙ ap (λ x. take i spots ++ x ∷ []) (sym is_y)

    taken : length (take i spots) ≡ i
    taken = length-take-le i spots (omega arith)

    earlier : All (λ x. y ≢ x) (take i spots)
    earlier = search (rules, taken, get_or, get_or_default, get_or-take)

-- the table stays where no chip has the spot of one vertex more
pub TellsVertices-beyond : (m : Description) (spots : List Spot) (i : ℕ) (y : Spot) (table : List (Option ℕ)) → i < length spots → y ≡ get_or spots i y →
    IsSpotPlace m y None → TellsVertices m (take i spots) table → TellsVertices m (take (i + 1) spots) table
TellsVertices-beyond m spots i y table below is_y nowhere tells = grind (arith, take_more spots i y below, vertex_at-push_other)
