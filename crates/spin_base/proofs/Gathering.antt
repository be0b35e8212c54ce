-- What is made of the items of a list with their places, one after the other: members and counts.
use Rattle.std.proofs.Common.{◌≡◌, ◌≢◌, ℕ, ◌+◌, ◌<◌, ◌≤◌, suc, zero, List, [], ◌∷◌, ◌++◌, map, take, Bool, true, false, if◌then◌else◌, Option, Some, None, refl, ap, sym, ◌∙◌, subst, arith, inl, inr}
use Rattle.std.proofs.Common.{◌⊎◌, count_by, replicate, append_assoc, append-nil, add-one}
use Rattle.std.specs.List.{All, slice_get, range_with_len, filter_map, enumerate_from, cons_option}
use Rattle.std.proofs.lemmas.{Bool.cases_order, List.Elements.All-head, List.Elements.All-tail}
use Rattle.spin_base.specs.Gathered.{gathered}
use Rattle.spin_base.proofs.{Members.Among, Members.among_left, Members.among_right, Members.among_either, Counts.count_by-append, Counts.count_by-cons}

-- nothing is made of items of which nothing is made
pub gathered_of_none : {X Y : Type 0} (f : ℕ → X → List Y) (x : X) → ((j : ℕ) → f j x ≡ []) → (i : ℕ) (xs : List X) → All (λ y. y ≡ x) xs → gathered f i xs ≡ []
gathered_of_none f x nothing i [] all = refl
gathered_of_none f x nothing i (y ∷ xs) all =
    let same : y ≡ x = All-head (λ z. z ≡ x) y xs all in
    ap (λ l. l ++ gathered f (i + 1) xs) (ap (f i) same ∙ nothing i)
    ∙ gathered_of_none f x nothing (i + 1) xs (All-tail (λ z. z ≡ x) y xs all)

pub gathered_nothing : {X Y : Type 0} (f : ℕ → X → List Y) (x : X) → ((j : ℕ) → f j x ≡ []) → (i n : ℕ) → gathered f i (replicate n x) ≡ []
gathered_nothing f x nothing i zero = refl
gathered_nothing f x nothing i (suc n) = grind (arith, gathered_nothing f x nothing (i + 1) n)

-- ---- the first items and the next

gathered_next : {X Y : Type 0} (f : ℕ → X → List Y) (n : ℕ) (xs : List X) (i j : ℕ) (x : X) → slice_get xs i ≡ Some x → n + i ≡ j → gathered f n (take (suc i) xs) ≡ gathered f n (take i xs) ++ f j x
gathered_next f n [] i j x here at = cc
gathered_next {X} {Y} f n (y ∷ ys) zero j x here at = grind (arith, append-nil (f n y))
gathered_next {X} {Y} f n (y ∷ ys) (suc i) j x here at = grind (arith, gathered_next f (n + 1) ys i j x here (omega (arith, at)), append_assoc (f n y) (gathered f (n + 1) (take i ys)) (f j x))

-- the first items and the next
pub gathered_more : {X Y : Type 0} (f : ℕ → X → List Y) (n : ℕ) (xs : List X) (i j : ℕ) (x : X) → slice_get xs i ≡ Some x → n + i ≡ j → gathered f n (take (i + 1) xs) ≡ gathered f n (take i xs) ++ f j x
gathered_more f n xs i j x here at = ap (λ (m : ℕ). gathered f n (take m xs)) (add-one i) ∙ gathered_next f n xs i j x here at

-- ---- members

pub among_gathered_from : {X Y : Type 0} (f : ℕ → X → List Y) (y : Y) (i : ℕ) (xs : List X) → Among y (gathered f i xs) →
    (j : ℕ) × (x : X) × (slice_get xs j ≡ Some x) × Among y (f (i + j) x)
among_gathered_from f y i [] a = absurd a
among_gathered_from f y i (x ∷ xs) a = elim (among_either y (f i x) (gathered f (i + 1) xs) a) [
  | inl here ↦ let n_is : i ≡ i + 0 = omega arith in (0, x, refl, subst (λ n. Among y (f n x)) n_is here)
  | inr later ↦
      let rest = among_gathered_from f y (i + 1) xs later in
      let n_is : i + 1 + rest.0 ≡ i + suc rest.0 = omega arith in
      (suc rest.0, rest.1, rest.2, subst (λ n. Among y (f n rest.1)) n_is rest.3)
]

pub gathered_among_from : {X Y : Type 0} (f : ℕ → X → List Y) (y : Y) (i : ℕ) (xs : List X) (j : ℕ) (x : X) → slice_get xs j ≡ Some x →
    Among y (f (i + j) x) → Among y (gathered f i xs)
gathered_among_from f y i [] j x at a = cc
gathered_among_from {X} {Y} f y i (z ∷ xs) zero x at a = grind (arith, Among, among_left)
gathered_among_from f y i (z ∷ xs) (suc j) x at a =
    let n_is : i + suc j ≡ i + 1 + j = omega arith in
    among_right y (f i z) (gathered f (i + 1) xs) (gathered_among_from f y (i + 1) xs j x at (subst (λ n. Among y (f n x)) n_is a))

-- the list's item of which a member is made
pub among_gathered : {X Y : Type 0} (f : ℕ → X → List Y) (y : Y) (xs : List X) → Among y (gathered f 0 xs) →
    (j : ℕ) × (x : X) × (slice_get xs j ≡ Some x) × Among y (f j x)
among_gathered f y xs a = grind (arith, among_gathered_from f y 0 xs a, Among)

pub gathered_among : {X Y : Type 0} (f : ℕ → X → List Y) (y : Y) (xs : List X) (j : ℕ) (x : X) → slice_get xs j ≡ Some x →
    Among y (f j x) → Among y (gathered f 0 xs)
gathered_among f y xs j x at a =
    let n_is : j ≡ 0 + j = omega arith in
    gathered_among_from f y 0 xs j x at (subst (λ n. Among y (f n x)) n_is a)

-- ---- of a range of numbers

module _ {X Y : Type 0} (f : ℕ → X → List Y) (g : ℕ → X) where
  -- what is made of the numbers from i on
  abbrev made : ℕ → ℕ → List Y
  made i n = gathered f i (map g (range_with_len i n))

  pub among_made : (y : Y) (i n : ℕ) → Among y (made i n) → (v : ℕ) × (i ≤ v) × (v < i + n) × Among y (f v (g v))
  among_made y i zero a = absurd a
  among_made y i (suc n) a = elim (among_either y (f i (g i)) (made (i + 1) n) a) [
    | inl here ↦ (i, omega arith, omega arith, here)
    | inr later ↦ let rest = among_made y (i + 1) n later in (rest.0, omega (arith, rest.1), omega (arith, rest.2), rest.3)
  ]

  pub made_among : (y : Y) (i n v : ℕ) → i ≤ v → v < i + n → Among y (f v (g v)) → Among y (made i n)
  made_among y i zero v low high a = absurd (omega arith)
  made_among y i (suc n) v low high a = elim (cases_order i v) [
    | inl same ↦ among_left y (f i (g i)) (made (i + 1) n) (subst (λ k. Among y (f k (g k))) (sym same) a)
    | inr (inl before) ↦ among_right y (f i (g i)) (made (i + 1) n) (made_among y (i + 1) n v (omega arith) (omega arith) a)
    | inr (inr after) ↦ absurd (omega arith)
  ]

  -- where nothing of any number counts, nothing counts
  pub count_made_none : (p : Y → Bool) (i n : ℕ) → ((v : ℕ) → i ≤ v → count_by p (f v (g v)) ≡ 0) → count_by p (made i n) ≡ 0
  count_made_none p i zero none = refl
  count_made_none p i (suc n) none =
      count_by-append p (f i (g i)) (made (i + 1) n)
      ∙ omega (arith, none i (omega arith), count_made_none p (i + 1) n (λ v low. none v (omega arith)))

  -- where only what is made of one number counts, that is the count
  pub count_made_one : (p : Y → Bool) (i n v c : ℕ) → i ≤ v → v < i + n → count_by p (f v (g v)) ≡ c →
      ((w : ℕ) → w ≢ v → count_by p (f w (g w)) ≡ 0) → count_by p (made i n) ≡ c
  count_made_one p i zero v c low high here others = absurd (omega arith)
  count_made_one p i (suc n) v c low high here others = elim (cases_order i v) [
    | inl same ↦ grind (arith, count_by-append p (f i (g i)) (made (i + 1) n), count_by, count_made_none)
    | inr (inl before) ↦ grind (arith, count_made_one p (i + 1) n v c (omega arith) (omega arith) here others, count_by-append p (f i (g i)) (made (i + 1) n))
    | inr (inr after) ↦ absurd (omega arith)
  ]

module _ {X Y : Type 0} (h : ℕ × X → Option Y) where
  -- what is taken of the numbered items of a list
  abbrev chosen : ℕ → List X → List Y
  chosen n xs = filter_map h (enumerate_from n xs)

  among_option : (y : Y) (o : Option Y) (l : List Y) → Among y (cons_option o l) → (o ≡ Some y) ⊎ Among y l
  among_option y (Some z) l (inl here) = inl (ap Some (sym here))
  among_option y (Some z) l (inr later) = inr later
  among_option y None l later = inr later

  pub among_chosen : (y : Y) (n : ℕ) (xs : List X) → Among y (chosen n xs) →
      (i : ℕ) × (x : X) × (slice_get xs i ≡ Some x) × (h (n + i, x) ≡ Some y)
  among_chosen y n [] a = absurd a
  among_chosen y n (x ∷ xs) a = elim (among_option y (h (n, x)) (chosen (n + 1) xs) a) [
    | inl here ↦ (0, x, refl, ap (λ k. h (k, x)) (plus_zero n) ∙ here)
    | inr later ↦
        let rest = among_chosen y (n + 1) xs later in
        (suc rest.0, rest.1, rest.2, ap (λ k. h (k, rest.1)) (plus_suc n rest.0) ∙ rest.3)
  ]
    where
      plus_zero : (k : ℕ) → k + 0 ≡ k
      plus_zero k = omega arith

      plus_suc : (k j : ℕ) → k + suc j ≡ k + 1 + j
      plus_suc k j = omega arith

  still_among : (y : Y) (o : Option Y) (l : List Y) → Among y l → Among y (cons_option o l)
  still_among y (Some z) l a = inr a
  still_among y None l a = a

  first_among : (y : Y) (o : Option Y) (l : List Y) → o ≡ Some y → Among y (cons_option o l)
  first_among y (Some z) l e = inl (let same : z ≡ y = cc in sym same)
  first_among y None l e = cc

  pub chosen_among : (y : Y) (n : ℕ) (xs : List X) (i : ℕ) (x : X) → slice_get xs i ≡ Some x → h (n + i, x) ≡ Some y → Among y (chosen n xs)
  chosen_among y n [] i x at is = cc
  chosen_among y n (z ∷ xs) zero x at is = grind (arith, first_among)
  chosen_among y n (z ∷ xs) (suc i) x at is =
      let next : n + suc i ≡ n + 1 + i = omega arith in
      still_among y (h (n, z)) (chosen (n + 1) xs) (chosen_among y (n + 1) xs i x at (ap (λ k. h (k, x)) (sym next) ∙ is))

  count_option : (p : Y → Bool) (o : Option Y) (l : List Y) → ((y : Y) → o ≡ Some y → p y ≡ false) → count_by p (cons_option o l) ≡ count_by p l
  count_option p (Some z) l fails = count_by-cons p z l ∙ ap (λ b. (if b then 1 else 0) + count_by p l) (fails z refl) ∙ zero_more (count_by p l)
    where
      zero_more : (k : ℕ) → 0 + k ≡ k
      zero_more k = omega arith
  count_option p None l fails = refl

  count_option_one : (p : Y → Bool) (o : Option Y) (l : List Y) (y : Y) → o ≡ Some y → p y ≡ true → count_by p (cons_option o l) ≡ 1 + count_by p l
  count_option_one p (Some z) l y is passes = grind (arith, count_by-cons p z l, count_by p l)
  count_option_one p None l y is passes = cc

  -- where none of the items counts, none is counted
  pub count_chosen_none : (p : Y → Bool) (n : ℕ) (xs : List X) →
      ((i : ℕ) (x : X) (y : Y) → slice_get xs i ≡ Some x → h (n + i, x) ≡ Some y → p y ≡ false) → count_by p (chosen n xs) ≡ 0
  count_chosen_none p n [] none = refl
  count_chosen_none p n (x ∷ xs) none =
      let zero_more : n + 0 ≡ n = omega arith in
      count_option p (h (n, x)) (chosen (n + 1) xs) (λ y e. none 0 x y refl (ap (λ k. h (k, x)) zero_more ∙ e))
      ∙ count_chosen_none p (n + 1) xs (λ i z y at e.
      let next : n + suc i ≡ n + 1 + i = omega arith in none (suc i) z y at (ap (λ k. h (k, z)) next ∙ e))

  -- where only the item at one place counts, one is counted
  pub count_chosen_one : (p : Y → Bool) (n : ℕ) (xs : List X) (i : ℕ) (x : X) (y : Y) → slice_get xs i ≡ Some x → h (n + i, x) ≡ Some y → p y ≡ true →
      ((j : ℕ) (z : X) (w : Y) → j ≢ i → slice_get xs j ≡ Some z → h (n + j, z) ≡ Some w → p w ≡ false) → count_by p (chosen n xs) ≡ 1
  count_chosen_one p n [] i x y at is passes others = cc
  count_chosen_one p n (q ∷ xs) zero x y at is passes others =
      let same : q ≡ x = cc in
      let zero_more : n + 0 ≡ n = omega arith in
      let rest : count_by p (chosen (n + 1) xs) ≡ 0 = count_chosen_none p (n + 1) xs (λ j z w at' e.
      let next : n + suc j ≡ n + 1 + j = omega arith in
      others (suc j) z w (λ e. omega arith) at' (ap (λ k. h (k, z)) next ∙ e))
      in
      count_option_one p (h (n, q)) (chosen (n + 1) xs) y (ap (λ v. h (n, v)) same ∙ (ap (λ k. h (k, x)) (sym zero_more) ∙ is)) passes
      ∙ ap (λ k. 1 + k) rest
  count_chosen_one p n (q ∷ xs) (suc i) x y at is passes others =
      let zero_more : n + 0 ≡ n = omega arith in
      let here : n + suc i ≡ n + 1 + i = omega arith in
      count_option p (h (n, q)) (chosen (n + 1) xs) (λ w e. others 0 q w (λ e'. omega arith) refl (ap (λ k. h (k, q)) zero_more ∙ e))
      ∙ count_chosen_one p (n + 1) xs i x y at (ap (λ k. h (k, x)) (sym here) ∙ is) passes (λ j z w apart at' e.
      let next : n + suc j ≡ n + 1 + j = omega arith in
      others (suc j) z w (λ same. apart (omega arith)) at' (ap (λ k. h (k, z)) next ∙ e))
