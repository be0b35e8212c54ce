-- Runs of chips whose tables workers cover, chip by chip.
use Rattle.par_compile.proofs.Common.{AllZip, AllZip-long, Final, GivesFinal, IsFinalFor, IsStillPlain, IsWorked, List, Mark, None, Refused, Work, [], all_zipped_more, append_assoc, arith, get_or}
use Rattle.par_compile.proofs.Common.{get_or_push, is_long, length, length-append, ltb-true, position, refl, subst, suc, take, take-append_seam, take_all, true, ℕ, ◌++◌, ◌+◌, ◌<◌, ◌∷◌, ◌≡◌, ◌≤◌}
use Rattle.par_compile.proofs.Unique.{none_long}

-- the tables before place k are worked on, and the others are as they were
pub record IsWorkedTo (target : ℕ) (start now : List Work) (k : ℕ) : Type 0 where
  pub long : length now ≡ length start
  pub worked : (j : ℕ) (d : Work) → j < k → j < length start → IsWorked target (get_or start j d) (get_or now j d)
  pub left : (j : ℕ) (d : Work) → k ≤ j → get_or now j d ≡ get_or start j d

-- the final tables that work gives are those of the original blocks
module _ (target : ℕ) where
  gives_one : (t : List Mark) (old new : Work) (f : Final) → IsStillPlain t old → IsWorked target old new → GivesFinal target new f → IsFinalFor target t f
  gives_one t old new f waits worked gives = grind arith

  pub all_beside : (ts : List (List Mark)) (fs : List Final) (olds news : List Work) → AllZip IsStillPlain ts olds → length news ≡ length olds →
      ((i : ℕ) (d : Work) → i < length olds → IsWorked target (get_or olds i d) (get_or news i d)) → AllZip (GivesFinal target) (take (length fs) news) fs →
      AllZip (IsFinalFor target) (take (length fs) ts) fs
  all_beside ts [] olds news wait long each gives = tt
  all_beside [] (f ∷ fs) [] [] wait long each gives = absurd gives
  all_beside [] (f ∷ fs) [] (n ∷ news) wait long each gives = absurd (omega (arith, long))
  all_beside [] (f ∷ fs) (o ∷ olds) news wait long each gives = absurd wait
  all_beside (t ∷ ts) (f ∷ fs) [] news wait long each gives = absurd wait
  all_beside (t ∷ ts) (f ∷ fs) (o ∷ olds) [] wait long each gives = absurd gives
  all_beside (t ∷ ts) (f ∷ fs) (o ∷ olds) (n ∷ news) wait long each gives = (
    gives_one t o n f wait.0 (each 0 Refused (omega arith)) gives.0,
    all_beside ts fs olds news wait.1 (omega (arith, long)) (λ i d below. each (suc i) d (omega (arith, below))) gives.1,
  )

-- ---- what was made of the items so far

-- these were made of the first items, one of each, and the rest is left
pub record AreGiven {A B : Type 0} (P : A → B → Type 0) (all rest : List A) (made : List B) : Type 0 where
  pub front : List A
  pub whole : front ++ rest ≡ all
  pub gives : AllZip P front made

module _ {A B : Type 0} (P : A → B → Type 0) (all rest : List A) (made : List B) where
  -- one more
  pub given_more : (a : A) (b : B) → AreGiven P all (a ∷ rest) made → P a b → AreGiven P all rest (made ++ b ∷ [])
  given_more a b so_far more = grind (arith, append_assoc so_far.front (a ∷ []) rest, all_zipped_more P so_far.front made a b so_far.gives more)

  pub all_given : AreGiven P all rest made → AllZip P (take (length made) all) made
  all_given so_far = grind (arith, AllZip-long P so_far.front made so_far.gives, take-append_seam so_far.front rest)

  pub given_at_end : length rest ≡ 0 → AreGiven P all rest made → length made ≡ length all
  given_at_end none so_far = grind (arith, AllZip-long P so_far.front made so_far.gives, length-append so_far.front rest)

  pub all_made : length rest ≡ 0 → AreGiven P all rest made → AllZip P all made
  all_made none so_far = subst (λ (xs : List A). AllZip P xs made) (take_all (length made) all (omega (arith, given_at_end none so_far))) (all_given so_far)

-- final tables of which the last is long are not without a long one
pub last_is_long : (finals : List Final) (f : Final) → is_long f ≡ true → position is_long (finals ++ f ∷ []) ≡ None → ⊥
last_is_long finals f long none =
    let size : length (finals ++ f ∷ []) ≡ length finals + 1 = length-append finals (f ∷ []) in
    let short : length (get_or (finals ++ f ∷ []) (length finals) f).entries ≤ 1024 = none_long (finals ++ f ∷ []) none (length finals) f (omega (arith, size)) in
    let it : get_or (finals ++ f ∷ []) (length finals) f ≡ f = get_or_push finals f f (length finals) refl in
    let few : length f.entries ≤ 1024 = subst (λ (g : Final). length g.entries ≤ 1024) it short in
    let many : 1024 < length f.entries = ltb-true 1024 (length f.entries) long in
    omega (arith, few, many)
