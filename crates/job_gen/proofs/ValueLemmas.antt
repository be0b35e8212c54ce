-- Lists of values of which each is made of the item at its place.
use Rattle.job_gen.proofs.Common.{Data, List, Value, [], ap, arith, get_or, length, map, refl, suc, view, ℕ, ◌+◌, ◌<◌, ◌∙◌, ◌∷◌, ◌≡◌}
use Rattle.job_gen.specs.Values.{numbered}

numbered_from : {A : Type 0} (f : ℕ → A → Data) (i : ℕ) (xs : List A) (vs : List Value) → length xs ≡ length vs
    → ((k n : ℕ) (d : A) (v : Value) → n ≡ i + k → k < length xs → view (get_or vs k v) ≡ f n (get_or xs k d)) → map view vs ≡ numbered f i xs
unfolding numbered
numbered_from f i [] [] long each = refl
numbered_from f i [] (v ∷ vs) long each = absurd (omega (arith, long))
numbered_from f i (x ∷ xs) [] long each = absurd (omega (arith, long))
numbered_from f i (x ∷ xs) (v ∷ vs) long each =
    rw (each 0 i x v (omega arith) (omega arith), numbered_from f (i + 1) xs vs (omega (arith, long)) (λ k n d w is below. each (suc k) n d w (omega (arith, is)) (omega (arith, below)))) refl

pub numbered_values : {A : Type 0} (f : ℕ → A → Data) (xs : List A) (vs : List Value) → length xs ≡ length vs
    → ((k : ℕ) (d : A) (v : Value) → k < length xs → view (get_or vs k v) ≡ f k (get_or xs k d)) → map view vs ≡ numbered f 0 xs
numbered_values f xs vs long each = numbered_from f 0 xs vs long (λ k n d v is below. let same : k ≡ n = omega (arith, is) in each k d v below ∙ ap (λ m. f m (get_or xs k d)) same)

-- the same where the value of an item does not depend on its place
pub mapped_values : {A : Type 0} (f : A → Data) (xs : List A) (vs : List Value) → length xs ≡ length vs
    → ((k : ℕ) (d : A) (v : Value) → k < length xs → view (get_or vs k v) ≡ f (get_or xs k d)) → map view vs ≡ map f xs
mapped_values f [] [] long each = refl
mapped_values f [] (v ∷ vs) long each = absurd (omega (arith, long))
mapped_values f (x ∷ xs) [] long each = absurd (omega (arith, long))
mapped_values f (x ∷ xs) (v ∷ vs) long each =
    rw (each 0 x v (omega arith), mapped_values f xs vs (omega (arith, long)) (λ k d w below. each (suc k) d w (omega (arith, below)))) refl
