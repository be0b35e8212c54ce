-- Counts of a list by tests of which each item passes one.
use Rattle.mesh_core.proofs.Common.{All-each, Among, Bool, List, Some, [], and_parts, ap, arith, cases_order, contains_among, count_by, count_by-agree, count_by-append, count_by-cons, eq-eqb, false}
use Rattle.mesh_core.proofs.Common.{gathered, if◌then◌else◌, inl, inr, length, not, refl, slice_get, subst, suc, sym, true, zero, ℕ, ◌&&◌, ◌*◌, ◌+◌, ◌<◌, ◌==◌, ◌∙◌, ◌∷◌, ◌≡◌, ◌≢◌, ◌≤◌}

-- a test that all pass counts all
pub count_all : {X : Type 0} (p : X → Bool) (xs : List X) → ((x : X) → Among x xs → p x ≡ true) → count_by p xs ≡ length xs
count_all p [] all = refl
count_all p (x ∷ xs) all =
    count_by-cons p x xs
    ∙ (ap (λ b. (if b then 1 else 0) + count_by p xs) (all x (inl refl)) ∙ omega (arith, count_all p xs (λ y a. all y (inr a))))

-- what is counted is counted by one test or passes the other
one_of_two : (p q : Bool) → (let n : ℕ = if p then 1 else 0 in let m : ℕ = if q then 1 else 0 in let r : ℕ = if p && not q then 1 else 0 in n ≤ m + r)
one_of_two p q = grind arith

count_split : {X : Type 0} (p q : X → Bool) (xs : List X) → count_by p xs ≤ count_by q xs + count_by (λ x. p x && not (q x)) xs
count_split p q [] = omega arith
count_split p q (x ∷ xs) =
    let rest = count_split p q xs in
    let here = one_of_two (p x) (q x) in
    omega (arith, count_by-cons p x xs, count_by-cons q x xs, count_by-cons (λ y. p y && not (q y)) x xs)

and_not_right : (p q : Bool) → (p && not q) ≡ true → q ≡ true → ⊥
and_not_right p q e f = let left = (and_parts p (not q) e).1 in let none = ap not f in cc

-- Where each item that is counted passes some test, and at most one item passes each, there are at most as many as tests.
pub count_covered : {X W : Type 0} (test : W → X → Bool) (ws : List W) (p : X → Bool) (xs : List X) →
    ((x : X) → Among x xs → p x ≡ true → (w : W) × Among w ws × (test w x ≡ true)) →
    ((w : W) → Among w ws → count_by (test w) xs ≤ 1) → count_by p xs ≤ length ws
count_covered {X} test [] p xs covered once = none xs (λ x a passes. absurd (covered x a passes).1)
  where
    none_by : (x : X) (xs : List X) (b : Bool) → p x ≡ b → (p x ≡ true → ⊥) → count_by p xs ≤ 0 → (if b then 1 else 0) + count_by p xs ≤ 0
    none_by x xs true is never rest = absurd (never is)
    none_by x xs false is never rest = omega (arith, rest)

    none : (xs : List X) → ((x : X) → Among x xs → p x ≡ true → ⊥) → count_by p xs ≤ 0
    none [] never = omega arith
    none (x ∷ xs) never = subst (λ n. n ≤ 0) (sym (count_by-cons p x xs)) (none_by x xs (p x) refl (never x (inl refl)) (none xs (λ y a. never y (inr a))))
count_covered {X} {W} test (w ∷ ws) p xs covered once =
    let split = count_split p (test w) xs in
    let rest = count_covered test ws (λ x. p x && not (test w x)) xs others (λ v a. once v (inr a)) in
    let first = once w (inl refl) in
    omega arith
  where
    others : (x : X) → Among x xs → (p x && not (test w x)) ≡ true → (v : W) × Among v ws × (test v x ≡ true)
    others x a passes = grind (arith, and_parts, Among, and_not_right)

-- So a list is no longer than the tests, where each of its items passes one, and at most one item passes each.
pub length_covered : {X W : Type 0} (test : W → X → Bool) (ws : List W) (xs : List X) →
    ((x : X) → Among x xs → (w : W) × Among w ws × (test w x ≡ true)) → ((w : W) → Among w ws → count_by (test w) xs ≤ 1) → length xs ≤ length ws
length_covered test ws xs covered once =
    let few : count_by (λ x. true) xs ≤ length ws = count_covered test ws (λ x. true) xs (λ x a passes. covered x a) once in
    omega (arith, few, count_all (λ x. true) xs (λ x a. refl))

-- Where each item that is counted has a number below n, and at most m have each number, there are at most n times m.
pub count_numbered : {X : Type 0} (f : X → ℕ) (n m : ℕ) (p : X → Bool) (xs : List X) →
    ((x : X) → Among x xs → p x ≡ true → f x < n) → ((i : ℕ) → i < n → count_by (λ x. f x == i) xs ≤ m) → count_by p xs ≤ n * m
count_numbered f zero m p xs below each =
    let none : count_by p xs ≤ 0 = count_covered {W = ℕ} (λ w x. false) [] p xs (λ x a passes. absurd (let low = below x a passes in omega arith)) (λ w a. absurd a) in
    omega (arith, none)
count_numbered {X} f (suc n) m p xs below each =
    let split = count_split p (λ x. f x == n) xs in
    let rest = count_numbered f n m (λ x. p x && not (f x == n)) xs lower (λ i low. each i (omega arith)) in
    let first = each n (omega arith) in
    let product : suc n * m ≡ m + n * m = omega arith in
    omega (arith, product)
  where
    lower : (x : X) → Among x xs → (p x && not (f x == n)) ≡ true → f x < n
    lower x a passes =
        let small : f x < suc n = below x a ((and_parts (p x) (not (f x == n)) passes).0) in
        elim (cases_order (f x) n) [
          | inl same ↦ absurd (and_not_right (p x) (f x == n) passes (eq-eqb (f x) n same))
          | inr (inl less) ↦ less
          | inr (inr more) ↦ absurd (omega arith)
        ]

-- what is made of one item is counted among what is made of all
pub count_gathered_part : {X Y : Type 0} (f : ℕ → X → List Y) (p : Y → Bool) (i : ℕ) (xs : List X) (j : ℕ) (x : X) → slice_get xs j ≡ Some x →
    count_by p (f (i + j) x) ≤ count_by p (gathered f i xs)
count_gathered_part f p i [] j x at = cc
count_gathered_part {X} {Y} f p i (z ∷ xs) zero x at = grind (arith, count_by-append p (f i z) (gathered f (i + 1) xs), count_by)
count_gathered_part f p i (z ∷ xs) (suc j) x at = grind (arith, count_gathered_part f p (i + 1) xs j x at, count_by-append p (f i z) (gathered f (i + 1) xs), count_by)

-- two different items that pass a test count two
pub counts_one : (b : Bool) → b ≡ true → (let n : ℕ = if b then 1 else 0 in n ≡ 1)
counts_one b e = grind arith

pub count_some : {X : Type 0} (p : X → Bool) (x : X) (xs : List X) → p x ≡ true → Among x xs → 1 ≤ count_by p xs
count_some p x [] passes a = absurd a
count_some p x (y ∷ xs) passes (inl here) = grind (arith, counts_one (p y) (ap p (sym here) ∙ passes), count_by-cons p y xs)
count_some p x (y ∷ xs) passes (inr later) = let rest = count_some p x xs passes later in omega (arith, count_by-cons p y xs)

pub count_two : {X : Type 0} (p : X → Bool) (x y : X) (xs : List X) → x ≢ y → p x ≡ true → p y ≡ true → Among x xs → Among y xs → 2 ≤ count_by p xs
count_two p x y [] apart px py a b = absurd a
count_two p x y (z ∷ xs) apart px py (inl here) (inl there) = absurd (apart (here ∙ sym there))
count_two p x y (z ∷ xs) apart px py (inl here) (inr later) = grind (arith, counts_one (p z) (ap p (sym here) ∙ px), count_some p y xs py later, count_by-cons p z xs)
count_two p x y (z ∷ xs) apart px py (inr later) (inl here) = grind (arith, counts_one (p z) (ap p (sym here) ∙ py), count_some p x xs px later, count_by-cons p z xs)
count_two p x y (z ∷ xs) apart px py (inr later) (inr last) = grind (arith, count_two p x y xs apart px py later last, count_by-cons p z xs)

-- a test that passes where another does counts no less
one_below : (p q : Bool) → (p ≡ true → q ≡ true) → (let n : ℕ = if p then 1 else 0 in let m : ℕ = if q then 1 else 0 in n ≤ m)
one_below p q then' = grind arith

pub count_le : {X : Type 0} (p q : X → Bool) (xs : List X) → ((x : X) → Among x xs → p x ≡ true → q x ≡ true) → count_by p xs ≤ count_by q xs
count_le p q [] then' = omega arith
count_le p q (x ∷ xs) then' =
    let rest = count_le p q xs (λ y a. then' y (inr a)) in
    let first = one_below (p x) (q x) (then' x (inl refl)) in
    omega (arith, count_by-cons p x xs, count_by-cons q x xs)

pub counted : {X : Type 0} (p : X → Bool) (xs : List X) → 1 ≤ count_by p xs → (y : X) × Among y xs × (p y ≡ true)
counted p [] some = absurd (omega (arith, some))
counted p (x ∷ xs) some = grind (arith, counted p xs, count_by-cons p x xs)

-- tests that agree on the items count the same
pub count_agree : {X : Type 0} (p q : X → Bool) (xs : List X) → ((x : X) → Among x xs → p x ≡ q x) → count_by p xs ≡ count_by q xs
count_agree p q xs same = count_by-agree p q xs (All-each (λ x. p x ≡ q x) xs (λ x has. same x (contains_among x xs has)))
