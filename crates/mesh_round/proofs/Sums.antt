-- Sums over lists: exchanged, and carried from one list to another along a test that pairs their items.
use Rattle.mesh_round.proofs.Common.{Among, Bool, List, [], ap, arith, cases_Bool, cond, count_by, filter, gathered, inl, inr, map, refl, sum_by, sum_by-append, sum_by-cons, sym, true, ℕ, ◌+◌, ◌∙◌}
use Rattle.mesh_round.proofs.Common.{◌∷◌, ◌≡◌, ◌⊎◌}

pub sum_agree : {X : Type 0} (f g : X → ℕ) (xs : List X) → ((x : X) → Among x xs → f x ≡ g x) → sum_by f xs ≡ sum_by g xs
sum_agree f g [] same = refl
sum_agree f g (x ∷ xs) same =
    let a = sum_by-cons f x xs in
    let b = sum_by-cons g x xs in
    let first = same x (inl refl) in
    let rest = sum_agree f g xs (λ y a. same y (inr a)) in
    omega arith

pub sum_none : {X : Type 0} (f : X → ℕ) (xs : List X) → ((x : X) → Among x xs → f x ≡ 0) → sum_by f xs ≡ 0
sum_none f [] zero = refl
sum_none f (x ∷ xs) zero =
    let a = sum_by-cons f x xs in
    let first = zero x (inl refl) in
    let rest = sum_none f xs (λ y a. zero y (inr a)) in
    omega arith

pub sum_plus : {X : Type 0} (f g : X → ℕ) (xs : List X) → sum_by (λ x. f x + g x) xs ≡ sum_by f xs + sum_by g xs
sum_plus f g [] = refl
sum_plus f g (x ∷ xs) =
    let a = sum_by-cons f x xs in
    let b = sum_by-cons g x xs in
    let c = sum_by-cons (λ y. f y + g y) x xs in
    let rest = sum_plus f g xs in
    omega arith

pub sum_swap : {X Y : Type 0} (h : X → Y → ℕ) (xs : List X) (ys : List Y) → sum_by (λ x. sum_by (h x) ys) xs ≡ sum_by (λ y. sum_by (λ x. h x y) xs) ys
sum_swap h [] ys = sym (sum_none (λ y. sum_by (λ x. h x y) []) ys (λ y a. refl))
sum_swap h (x ∷ xs) ys =
    let a = sum_by-cons (λ z. sum_by (h z) ys) x xs in
    let rest = sum_swap h xs ys in
    let both = sum_plus (h x) (λ y. sum_by (λ z. h z y) xs) ys in
    let each = sum_agree (λ y. sum_by (λ z. h z y) (x ∷ xs)) (λ y. h x y + sum_by (λ z. h z y) xs) ys (λ y a. sum_by-cons (λ z. h z y) x xs) in
    omega arith

pub sum_single : {X : Type 0} (g : X → ℕ) (x : X) → sum_by g (x ∷ []) ≡ g x
sum_single g x = grind (arith, sum_by-cons g x)

-- a number where a test passes
abbrev given : ℕ → Bool → ℕ
given c b = cond b c 0

-- a number for each item that passes a test
abbrev pub where_passes : {X : Type 0} → (X → Bool) → ℕ → X → ℕ
where_passes t c x = cond (t x) c 0

none_passes : {X : Type 0} (t : X → Bool) (c : ℕ) (xs : List X) → count_by t xs ≡ 0 → sum_by (where_passes t c) xs ≡ 0
none_passes t c [] few = refl
none_passes t c (x ∷ xs) few =
    let sum = sum_by-cons (where_passes t c) x xs in
    let count = sum_by-cons (λ y. given 1 (t y)) x xs in
    elim (cases_Bool (t x)) [
      | inl is ↦
          let one : given 1 (t x) ≡ 1 = ap (given 1) is in
          absurd (omega (arith, few, count, one))
      | inr is ↦
          let zero : given c (t x) ≡ 0 = ap (given c) is in
          let one : given 1 (t x) ≡ 0 = ap (given 1) is in
          let rest = none_passes t c xs (omega (arith, few, count, one)) in
          omega arith
    ]

-- Of a number for each that passes, where just one passes, the sum is that number.
pub one_passes : {X : Type 0} (t : X → Bool) (c : ℕ) (xs : List X) → count_by t xs ≡ 1 → sum_by (where_passes t c) xs ≡ c
one_passes t c [] one = absurd (omega (arith, one))
one_passes t c (x ∷ xs) one =
    let sum = sum_by-cons (where_passes t c) x xs in
    let count = sum_by-cons (λ y. given 1 (t y)) x xs in
    elim (cases_Bool (t x)) [
      | inl is ↦
          let here : given c (t x) ≡ c = ap (given c) is in
          let first : given 1 (t x) ≡ 1 = ap (given 1) is in
          let rest = none_passes t c xs (omega (arith, one, count, first)) in
          omega arith
      | inr is ↦
          let here : given c (t x) ≡ 0 = ap (given c) is in
          let first : given 1 (t x) ≡ 0 = ap (given 1) is in
          let rest = one_passes t c xs (omega (arith, one, count, first)) in
          omega arith
    ]

-- the same where each item that passes gives that number
pub one_item : {X : Type 0} (t : X → Bool) (g : X → ℕ) (c : ℕ) (xs : List X) → ((x : X) → t x ≡ true → g x ≡ c) → count_by t xs ≡ 1 → sum_by (λ x. cond (t x) (g x) 0) xs ≡ c
one_item {X} t g c xs same one = sum_agree (λ x. cond (t x) (g x) 0) (where_passes t c) xs (λ x a. by_test x (t x) refl) ∙ one_passes t c xs one
  where
    by_test : (x : X) (b : Bool) → t x ≡ b → cond b (g x) 0 ≡ cond b c 0
    by_test x b is = grind arith

-- Of a number for each that passes, where just one passes, or the number is 0, the sum is that number.
pub one_or_none : {X : Type 0} (t : X → Bool) (c : ℕ) (xs : List X) → (c ≡ 0) ⊎ (count_by t xs ≡ 1) → sum_by (where_passes t c) xs ≡ c
one_or_none t c xs (inl zero) = grind (arith, sum_none, cases_Bool)
one_or_none t c xs (inr one) = one_passes t c xs one

-- Where a test pairs each item of one list with just one of another, and the other way round, but for items whose number is 0,
-- and the numbers of a pair are equal, the sums are.
module _ {X Y : Type 0} (test : X → Y → Bool) (f : X → ℕ) (g : Y → ℕ) (xs : List X) (ys : List Y)
    (same : (x : X) (y : Y) → Among x xs → Among y ys → test x y ≡ true → f x ≡ g y)
    (one_y : (x : X) → Among x xs → (f x ≡ 0) ⊎ (count_by (test x) ys ≡ 1))
    (one_x : (y : Y) → Among y ys → (g y ≡ 0) ⊎ (count_by (λ x. test x y) xs ≡ 1)) where
  agree_by : (x : X) (y : Y) → Among x xs → Among y ys → cond (test x y) (f x) 0 ≡ cond (test x y) (g y) 0
  agree_by x y a c = grind (arith, cases_Bool (test x y))

  pub carried : sum_by f xs ≡ sum_by g ys
  carried =
      sum_agree f (λ x. sum_by (where_passes (test x) (f x)) ys) xs (λ x a. sym (one_or_none (test x) (f x) ys (one_y x a)))
      ∙ (sum_agree (λ x. sum_by (where_passes (test x) (f x)) ys) (λ x. sum_by (λ y. cond (test x y) (g y) 0) ys) xs
      (λ x a. sum_agree (where_passes (test x) (f x)) (λ y. cond (test x y) (g y) 0) ys (λ y c. agree_by x y a c))
      ∙ (sum_swap (λ x y. cond (test x y) (g y) 0) xs ys
      ∙ sum_agree (λ y. sum_by (λ x. cond (test x y) (g y) 0) xs) g ys (λ y c. one_or_none (λ x. test x y) (g y) xs (one_x y c))))

-- ---- sums over lists that are made of others

pub sum_filter : {X : Type 0} (q : X → Bool) (g : X → ℕ) (xs : List X) → sum_by g (filter q xs) ≡ sum_by (λ x. cond (q x) (g x) 0) xs
sum_filter q g [] = refl
sum_filter {X} q g (x ∷ xs) =
    let all = sum_by-cons (λ y. cond (q y) (g y) 0) x xs in
    let rest = sum_filter q g xs in
    elim (cases_Bool (q x)) [
      | inl is ↦
          let kept : sum_by g (filter q (x ∷ xs)) ≡ sum_by g (x ∷ filter q xs) = ap (λ (b : Bool). sum_by g (cond b (x ∷ filter q xs) (filter q xs))) is in
          let here : given (g x) (q x) ≡ g x = ap (given (g x)) is in
          let first = sum_by-cons g x (filter q xs) in
          omega arith
      | inr is ↦
          let kept : sum_by g (filter q (x ∷ xs)) ≡ sum_by g (filter q xs) = ap (λ (b : Bool). sum_by g (cond b (x ∷ filter q xs) (filter q xs))) is in
          let here : given (g x) (q x) ≡ 0 = ap (given (g x)) is in
          omega arith
    ]

pub sum_map : {X Y : Type 0} (f : X → Y) (g : Y → ℕ) (xs : List X) → sum_by g (map f xs) ≡ sum_by (λ x. g (f x)) xs
sum_map f g [] = refl
sum_map f g (x ∷ xs) =
    let a = sum_by-cons g (f x) (map f xs) in
    let b = sum_by-cons (λ y. g (f y)) x xs in
    let rest = sum_map f g xs in
    omega arith

-- the sum of what each item and its place give, from a first place on
abbrev pub sum_at : {X : Type 0} → (ℕ → X → ℕ) → ℕ → List X → ℕ
sum_at h a [] = 0
sum_at h a (x ∷ xs) = h a x + sum_at h (a + 1) xs

pub sum_gathered : {X Y : Type 0} (g : Y → ℕ) (h : ℕ → X → List Y) (a : ℕ) (xs : List X) → sum_by g (gathered h a xs) ≡ sum_at (λ i x. sum_by g (h i x)) a xs
sum_gathered g h a [] = refl
sum_gathered g h a (x ∷ xs) = grind (arith, sum_by-append g (h a x) (gathered h (a + 1) xs), sum_gathered g h (a + 1) xs)

pub sum_at-plain : {X : Type 0} (g : X → ℕ) (a : ℕ) (xs : List X) → sum_at (λ i x. g x) a xs ≡ sum_by g xs
sum_at-plain g a [] = refl
sum_at-plain g a (x ∷ xs) = grind (arith, sum_by-cons g x xs, sum_at-plain g (a + 1) xs)

pub sum_at-swap : {X Y : Type 0} (h : Y → ℕ → X → ℕ) (a : ℕ) (xs : List X) (ys : List Y) → sum_by (λ y. sum_at (h y) a xs) ys ≡ sum_at (λ i x. sum_by (λ y. h y i x) ys) a xs
sum_at-swap h a [] ys = sum_none (λ y. sum_at (h y) a []) ys (λ y c. refl)
sum_at-swap h a (x ∷ xs) ys =
    let both = sum_plus (λ y. h y a x) (λ y. sum_at (h y) (a + 1) xs) ys in
    let rest = sum_at-swap h (a + 1) xs ys in
    omega arith
