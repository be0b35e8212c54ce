-- How many items of a list pass a test: of lists joined and mapped, and of tests that agree.
use Rattle.std.proofs.Common.{◌≡◌, ◌+◌, Bool, false, cond, if◌then◌else◌, List, [], ◌∷◌, ◌++◌, map, refl, sym, ap, ◌∙◌, arith, count_by}
use Rattle.std.specs.List.{All}
use Rattle.std.proofs.lemmas.List.{Elements.All-head, Elements.All-tail, Sums.sum_by-append, Sums.sum_by-cons}

pub count_by-append : {X : Type 0} (p : X → Bool) (xs ys : List X) → count_by p (xs ++ ys) ≡ count_by p xs + count_by p ys
count_by-append p xs ys = sum_by-append (λ x. cond (p x) 1 0) xs ys

pub count_by-cons : {X : Type 0} (p : X → Bool) (x : X) (xs : List X) → count_by p (x ∷ xs) ≡ (if p x then 1 else 0) + count_by p xs
count_by-cons p x xs = sum_by-cons (λ y. cond (p y) 1 0) x xs

pub count_by-map : {A B : Type 0} (p : B → Bool) (f : A → B) (xs : List A) → count_by p (map f xs) ≡ count_by (λ x. p (f x)) xs
count_by-map p f [] = refl
count_by-map p f (x ∷ xs) =
    sum_by-cons (λ b. cond (p b) 1 0) (f x) (map f xs)
    ∙ (ap (λ n. cond (p (f x)) 1 0 + n) (count_by-map p f xs) ∙ sym (sum_by-cons (λ a. cond (p (f a)) 1 0) x xs))

pub count_by-agree : {A : Type 0} (p q : A → Bool) (xs : List A) → All (λ x. p x ≡ q x) xs → count_by p xs ≡ count_by q xs
count_by-agree p q [] h = refl
count_by-agree p q (x ∷ xs) h =
    let here : p x ≡ q x = All-head (λ y. p y ≡ q y) x xs h in
    sum_by-cons (λ y. cond (p y) 1 0) x xs
    ∙ (ap (λ b. cond b 1 0 + count_by p xs) here
    ∙ (ap (λ n. cond (q x) 1 0 + n) (count_by-agree p q xs (All-tail (λ y. p y ≡ q y) x xs h)) ∙ sym (sum_by-cons (λ y. cond (q y) 1 0) x xs)))

-- a test that fails counts none
pub count_by-none : {X : Type 0} (xs : List X) → count_by (λ x. false) xs ≡ 0
count_by-none [] = refl
count_by-none (x ∷ xs) = count_by-cons (λ y. false) x xs ∙ omega (arith, count_by-none xs)
