-- Lists made of a range of numbers by a function.
use Rattle.std.proofs.Common.{◌≡◌, ◌≢◌, ℕ, zero, suc, ◌+◌, ◌<◌, ◌∷◌, map, set, Some, refl, ap, ◌∙◌, arith}
use Rattle.std.specs.List.{slice_get, range_with_len}

-- the item at a place of such a list
pub slice_get-map_range : {X : Type 0} (f : ℕ → X) (a n v : ℕ) → v < n → slice_get (map f (range_with_len a n)) v ≡ Some (f (a + v))
slice_get-map_range f a zero v below = absurd (omega arith)
slice_get-map_range f a (suc n) zero below = let same : a ≡ a + 0 = omega arith in ap (λ j. Some (f j)) same
slice_get-map_range f a (suc n) (suc v) below = grind (arith, slice_get-map_range f (a + 1) n v (omega arith))

-- two lists of one range, where the functions agree
pub map_range-agree : {X : Type 0} (f g : ℕ → X) (a n : ℕ) → ((w : ℕ) → a < w + 1 → f w ≡ g w) → map f (range_with_len a n) ≡ map g (range_with_len a n)
map_range-agree f g a zero same = refl
map_range-agree f g a (suc n) same =
    ap (λ x. x ∷ map f (range_with_len (a + 1) n)) (same a (omega arith))
    ∙ ap (λ l. g a ∷ l) (map_range-agree f g (a + 1) n (λ w from. same w (omega arith)))

-- a list of a range with one item replaced
pub set-map_range : {X : Type 0} (f g : ℕ → X) (a n v : ℕ) (y : X) → v < n → y ≡ g (a + v) → ((w : ℕ) → w ≢ a + v → f w ≡ g w) →
    set (map f (range_with_len a n)) v y ≡ map g (range_with_len a n)
set-map_range f g a zero v y below is same = absurd (omega arith)
set-map_range f g a (suc n) zero y below is same = grind (arith, map_range-agree)
set-map_range f g a (suc n) (suc v) y below is same =
    let there : a + suc v ≡ a + 1 + v = omega arith in
    ap (λ x. x ∷ set (map f (range_with_len (a + 1) n)) v y) (same a (omega arith))
    ∙ ap (λ l. g a ∷ l) (set-map_range f g (a + 1) n v y (omega arith) (is ∙ ap g there) (λ w other. same w (omega arith)))
