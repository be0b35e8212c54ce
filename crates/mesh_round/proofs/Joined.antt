-- Lists joined of lists: what passes of them, and the same lists joined in another order.
use Rattle.mesh_round.proofs.Common.{All, All-head, All-tail, Among, Bool, Contains, IsPermutation, IsPermutation-append_comm, IsPermutation-append_left, IsPermutation-append_right}
use Rattle.mesh_round.proofs.Common.{IsPermutation-refl, IsPermutation-trans, List, Some, [], among_either, among_left, among_right, ap, append-nil, append_assoc, ap₂, arith, contains_among, filter}
use Rattle.mesh_round.proofs.Common.{filter-append, flat_map, flat_map-append, gathered, inl, inr, length, length-append, map, map-append, refl, slice_get, subst, suc, sum_by, sum_by-cons, sym, true}
use Rattle.mesh_round.proofs.Common.{zero, ℕ, ◌++◌, ◌+◌, ◌∙◌, ◌∷◌, ◌≡◌, ◌≢◌}

-- ---- one function, then another

pub flat_agree : {X Y : Type 0} (P : X → Type 0) (f g : X → List Y) → ((x : X) → P x → f x ≡ g x) → (xs : List X) → All P xs → flat_map f xs ≡ flat_map g xs
flat_agree P f g same [] all = refl
flat_agree {X} {Y} P f g same (x ∷ xs) all = ap₂ (λ (a b : List Y). a ++ b) (same x (All-head P x xs all)) (flat_agree P f g same xs (All-tail P x xs all))

pub flat_same : {X Y : Type 0} (f g : X → List Y) → ((x : X) → f x ≡ g x) → (xs : List X) → flat_map f xs ≡ flat_map g xs
flat_same f g same [] = refl
flat_same {X} {Y} f g same (x ∷ xs) = ap₂ (λ (a b : List Y). a ++ b) (same x) (flat_same f g same xs)

pub flat_none : {X Y : Type 0} (P : X → Type 0) (f : X → List Y) → ((x : X) → P x → f x ≡ []) → (xs : List X) → All P xs → flat_map f xs ≡ []
flat_none P f none [] all = refl
flat_none {X} {Y} P f none (x ∷ xs) all = ap₂ (λ (a b : List Y). a ++ b) (none x (All-head P x xs all)) (flat_none P f none xs (All-tail P x xs all))

pub map-flat : {X Y Z : Type 0} (h : Y → Z) (f : X → List Y) (xs : List X) → map h (flat_map f xs) ≡ flat_map (λ x. map h (f x)) xs
map-flat h f [] = refl
map-flat {X} {Y} {Z} h f (x ∷ xs) = map-append h (f x) (flat_map f xs) ∙ ap (λ (l : List Z). map h (f x) ++ l) (map-flat h f xs)

pub filter-flat : {X Y : Type 0} (p : Y → Bool) (f : X → List Y) (xs : List X) → filter p (flat_map f xs) ≡ flat_map (λ x. filter p (f x)) xs
filter-flat p f [] = refl
filter-flat {X} {Y} p f (x ∷ xs) = filter-append p (f x) (flat_map f xs) ∙ ap (λ (l : List Y). filter p (f x) ++ l) (filter-flat p f xs)

pub flat-flat : {X Y Z : Type 0} (g : Y → List Z) (f : X → List Y) (xs : List X) → flat_map g (flat_map f xs) ≡ flat_map (λ x. flat_map g (f x)) xs
flat-flat g f [] = refl
flat-flat {X} {Y} {Z} g f (x ∷ xs) = flat_map-append g (f x) (flat_map f xs) ∙ ap (λ (l : List Z). flat_map g (f x) ++ l) (flat-flat g f xs)

pub among_flat : {X Y : Type 0} (g : X → List Y) (y : Y) (xs : List X) → Among y (flat_map g xs) → (x : X) × Among x xs × Among y (g x)
among_flat g y [] a = absurd a
among_flat {X} {Y} g y (x ∷ xs) a = elim (among_either y (g x) (flat_map g xs) a) [
  | inl here ↦ (x, inl refl, here)
  | inr later ↦ let rest = among_flat g y xs later in (rest.0, inr rest.1, rest.2)
]

into : {X Y : Type 0} (g : X → List Y) (x : X) (y : Y) (xs : List X) → Among x xs → Among y (g x) → Among y (flat_map g xs)
into {X} {Y} g x y (z ∷ zs) (inl is) a = among_left y (g z) (flat_map g zs) (subst (λ (w : X). Among y (g w)) is a)
into g x y (z ∷ zs) (inr later) a = among_right y (g z) (flat_map g zs) (into g x y zs later a)
into g x y [] none a = absurd none

pub among_into : {X Y : Type 0} (g : X → List Y) (x : X) (y : Y) (xs : List X) → Contains xs x → Among y (g x) → Among y (flat_map g xs)
among_into g x y xs has a = into g x y xs (contains_among x xs has) a

-- ---- of each item and its place

gathered_agree : {X Y : Type 0} (f g : ℕ → X → List Y) → ((i : ℕ) (x : X) → f i x ≡ g i x) → (a : ℕ) (xs : List X) → gathered f a xs ≡ gathered g a xs
gathered_agree f g same a [] = refl
gathered_agree {X} {Y} f g same a (x ∷ xs) = ap₂ (λ (l m : List Y). l ++ m) (same a x) (gathered_agree f g same (a + 1) xs)

pub gathered_none : {X Y : Type 0} (f : ℕ → X → List Y) (a : ℕ) (xs : List X) → ((i : ℕ) (x : X) → slice_get xs i ≡ Some x → f (a + i) x ≡ []) → gathered f a xs ≡ []
gathered_none f a [] none = refl
gathered_none {X} {Y} f a (x ∷ xs) none =
    let first : f a x ≡ [] = subst (λ n. f n x ≡ []) (let e : a + 0 ≡ a = omega arith in e) (none 0 x refl) in
    let rest = gathered_none f (a + 1) xs (λ i y at. subst (λ n. f n y ≡ []) (let e : a + suc i ≡ a + 1 + i = omega arith in e) (none (suc i) y at)) in
    ap₂ (λ (l m : List Y). l ++ m) first rest

-- Where something is made at one place alone, that is all.
pub gathered_one : {X Y : Type 0} (f : ℕ → X → List Y) (a : ℕ) (xs : List X) (w n : ℕ) (x : X) → slice_get xs w ≡ Some x → n ≡ a + w →
    ((i : ℕ) (y : X) → slice_get xs i ≡ Some y → i ≢ w → f (a + i) y ≡ []) → gathered f a xs ≡ f n x
gathered_one f a [] w n x at number others = cc
gathered_one {X} {Y} f a (y ∷ ys) zero n x at number others =
    let same : y ≡ x = cc in
    let here : a ≡ n = omega (arith, number) in
    let rest = gathered_none f (a + 1) ys (λ i z at_z. subst (λ k. f k z ≡ []) (let e : a + suc i ≡ a + 1 + i = omega arith in e) (others (suc i) z at_z (λ e. omega (arith, e)))) in
    ap (λ (l : List Y). f a y ++ l) rest ∙ (append-nil (f a y) ∙ ap₂ f here same)
gathered_one {X} {Y} f a (y ∷ ys) (suc w) n x at number others =
    let first : f a y ≡ [] = subst (λ k. f k y ≡ []) (let e : a + 0 ≡ a = omega arith in e) (others 0 y refl (λ e. omega (arith, e))) in
    ap (λ (l : List Y). l ++ gathered f (a + 1) ys) first
    ∙ gathered_one f (a + 1) ys w n x at (omega (arith, number)) (λ i z at_z apart.
    subst (λ k. f k z ≡ []) (let e : a + suc i ≡ a + 1 + i = omega arith in e) (others (suc i) z at_z (λ e. apart (omega (arith, e)))))

-- ---- in another order

four : {Y : Type 0} (a b c d : List Y) → IsPermutation ((a ++ b) ++ (c ++ d)) ((a ++ c) ++ (b ++ d))
four {Y} a b c d =
    let mid : IsPermutation ((b ++ c) ++ d) ((c ++ b) ++ d) = IsPermutation-append_left d (b ++ c) (c ++ b) (IsPermutation-append_comm b c) in
    let all = IsPermutation-append_right a ((b ++ c) ++ d) ((c ++ b) ++ d) mid in
    let from : a ++ ((b ++ c) ++ d) ≡ (a ++ b) ++ (c ++ d) = simp append_assoc in
    let to : a ++ ((c ++ b) ++ d) ≡ (a ++ c) ++ (b ++ d) = simp append_assoc in
    subst (λ (l : List Y). IsPermutation l ((a ++ c) ++ (b ++ d))) from (subst (λ (l : List Y). IsPermutation (a ++ ((b ++ c) ++ d)) l) to all)

gathered_both : {X Y : Type 0} (f g : ℕ → X → List Y) (a : ℕ) (xs : List X) → IsPermutation (gathered (λ i x. f i x ++ g i x) a xs) (gathered f a xs ++ gathered g a xs)
gathered_both f g a [] = IsPermutation-refl []
gathered_both f g a (x ∷ xs) =
    IsPermutation-trans ((f a x ++ g a x) ++ gathered (λ i y. f i y ++ g i y) (a + 1) xs) ((f a x ++ g a x) ++ (gathered f (a + 1) xs ++ gathered g (a + 1) xs))
    ((f a x ++ gathered f (a + 1) xs) ++ (g a x ++ gathered g (a + 1) xs))
    (IsPermutation-append_right (f a x ++ g a x) (gathered (λ i y. f i y ++ g i y) (a + 1) xs) (gathered f (a + 1) xs ++ gathered g (a + 1) xs) (gathered_both f g (a + 1) xs))
    (four (f a x) (g a x) (gathered f (a + 1) xs) (gathered g (a + 1) xs))

-- What is made of each pair, joined by the one or by the other.
gathered_swap : {X Y Z : Type 0} (h : Z → ℕ → X → List Y) (a : ℕ) (xs : List X) (zs : List Z) →
    IsPermutation (gathered (λ i x. flat_map (λ z. h z i x) zs) a xs) (flat_map (λ z. gathered (h z) a xs) zs)
gathered_swap {X} {Y} h a xs [] = subst (λ (l : List Y). IsPermutation l []) (sym (gathered_none (λ i x. []) a xs (λ i x at. refl))) (IsPermutation-refl [])
gathered_swap h a xs (z ∷ zs) =
    IsPermutation-trans (gathered (λ i x. h z i x ++ flat_map (λ y. h y i x) zs) a xs) (gathered (h z) a xs ++ gathered (λ i x. flat_map (λ y. h y i x) zs) a xs)
    (gathered (h z) a xs ++ flat_map (λ y. gathered (h y) a xs) zs)
    (gathered_both (h z) (λ i x. flat_map (λ y. h y i x) zs) a xs)
    (IsPermutation-append_right (gathered (h z) a xs) (gathered (λ i x. flat_map (λ y. h y i x) zs) a xs) (flat_map (λ y. gathered (h y) a xs) zs) (gathered_swap h a xs zs))

-- What is made place by place is, in some order, what is made item by item.
pub by_items : {X Y Z : Type 0} (P : Z → Type 0) (h : Z → ℕ → X → List Y) (f : ℕ → X → List Y) (g : Z → List Y) (a : ℕ) (xs : List X) (zs : List Z) →
    ((i : ℕ) (x : X) → f i x ≡ flat_map (λ z. h z i x) zs) → ((z : Z) → P z → gathered (h z) a xs ≡ g z) → All P zs → IsPermutation (gathered f a xs) (flat_map g zs)
by_items {X} {Y} P h f g a xs zs from to all =
    subst (λ (l : List Y). IsPermutation l (flat_map g zs)) (sym (gathered_agree f (λ i x. flat_map (λ z. h z i x) zs) from a xs))
    (subst (IsPermutation (gathered (λ i x. flat_map (λ z. h z i x) zs) a xs)) (flat_agree P (λ z. gathered (h z) a xs) g to zs all) (gathered_swap h a xs zs))

-- ---- how long

all_pass : {Y : Type 0} (ys : List Y) → filter (λ y. true) ys ≡ ys
all_pass [] = refl
all_pass {Y} (y ∷ ys) = ap (λ (l : List Y). y ∷ l) (all_pass ys)

pub sum_lengths : {X Y : Type 0} (f : X → List Y) (a : ℕ) (xs : List X) → sum_by (λ x. length (f x)) xs ≡ length (gathered (λ i x. filter (λ y. true) (f x)) a xs)
sum_lengths f a [] = refl
sum_lengths f a (x ∷ xs) =
    let sum = sum_by-cons (λ y. length (f y)) x xs in
    let both = length-append (filter (λ y. true) (f x)) (gathered (λ i y. filter (λ z. true) (f y)) (a + 1) xs) in
    omega (arith, sum, sum_lengths f (a + 1) xs, both, ap length (all_pass (f x)))
