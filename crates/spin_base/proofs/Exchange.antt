-- A list from which one item is taken out, and one into which items are put: what that does to counts and members,
-- and how a change of one part of a list is a change of the whole.
use Rattle.std.proofs.Common.{◌≡◌, ℕ, ◌+◌, suc, zero, List, [], ◌∷◌, ◌++◌, Bool, if◌then◌else◌, Some, refl, subst, arith, append_assoc, inl, count_by}
use Rattle.std.specs.List.{slice_get, slice_set}
use Rattle.spin_base.specs.Gathered.{gathered}
use Rattle.spin_base.proofs.{Counts.count_by-append, Counts.count_by-cons, Members.Among, Members.among_right}

-- after is before without one item
pub record TakenOut {X : Type 0} (x : X) (before after : List X) : Type 0 where
  pub front : List X
  pub back : List X
  pub before_is : before ≡ front ++ x ∷ back
  pub after_is : after ≡ front ++ back

-- after is before with these items more
pub record PutIn {X : Type 0} (xs before after : List X) : Type 0 where
  pub front : List X
  pub back : List X
  pub before_is : before ≡ front ++ back
  pub after_is : after ≡ front ++ (xs ++ back)

-- ---- in a part, so in the whole

pub taken_out_after : {X : Type 0} (x : X) (l before after : List X) → TakenOut x before after → TakenOut x (l ++ before) (l ++ after)
taken_out_after x l before after t = grind (arith, append_assoc l t.front (x ∷ t.back), append_assoc l t.front t.back)

pub taken_out_before : {X : Type 0} (x : X) (before after r : List X) → TakenOut x before after → TakenOut x (before ++ r) (after ++ r)
taken_out_before x before after r t = grind (arith, append_assoc t.front (x ∷ t.back) r, append_assoc t.front t.back r)

pub put_in_after : {X : Type 0} (xs l before after : List X) → PutIn xs before after → PutIn xs (l ++ before) (l ++ after)
put_in_after xs l before after p = grind (arith, append_assoc l p.front p.back, append_assoc l p.front (xs ++ p.back))

pub put_in_before : {X : Type 0} (xs before after r : List X) → PutIn xs before after → PutIn xs (before ++ r) (after ++ r)
put_in_before xs before after r p = grind (arith, append_assoc p.front p.back r, append_assoc p.front (xs ++ p.back) r, append_assoc xs p.back r)

-- ---- in what is made of one item, so in what is made of the list

pub put_in_gathered : {X Y : Type 0} (f : ℕ → X → List Y) (ys : List Y) (i : ℕ) (xs : List X) (j : ℕ) (old new : X) → slice_get xs j ≡ Some old → PutIn ys (f (i + j) old) (f (i + j) new) → PutIn ys (gathered f i xs) (gathered f i (slice_set xs j new))
put_in_gathered f ys i [] j old new at t = cc
put_in_gathered {X} {Y} f ys i (x ∷ xs) zero old new at t = grind (arith, put_in_before)
put_in_gathered f ys i (x ∷ xs) (suc j) old new at t =
    let n_is : i + suc j ≡ (i + 1) + j = omega arith in
    put_in_after ys (f i x) (gathered f (i + 1) xs) (gathered f (i + 1) (slice_set xs j new))
    (put_in_gathered f ys (i + 1) xs j old new at (subst (λ n. PutIn ys (f n old) (f n new)) n_is t))

-- ---- counts

pub count_taken_out : {X : Type 0} (p : X → Bool) (x : X) (before after : List X) → TakenOut x before after → count_by p before ≡ count_by p after + (if p x then 1 else 0)
count_taken_out p x before after t = grind (arith, count_by-append p t.front (x ∷ t.back), count_by-append p t.front t.back, count_by-cons p x t.back, count_by)

pub count_put_in : {X : Type 0} (p : X → Bool) (xs before after : List X) → PutIn xs before after → count_by p after ≡ count_by p before + count_by p xs
count_put_in p xs before after t = grind (arith, count_by-append p t.front t.back, count_by-append p t.front (xs ++ t.back), count_by-append p xs t.back, count_by)

-- ---- members

-- what was taken out was there
pub among_taken_out : {X : Type 0} (x : X) (before after : List X) → TakenOut x before after → Among x before
among_taken_out {X} x before after t = grind (arith, among_right x t.front (x ∷ t.back) (inl refl), Among)
