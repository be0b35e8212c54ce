-- Walks: from another relation, from their other end, and their levels.
use Rattle.link_detours.proofs.Common.{IsReachedBy, IsStepLevel, Steps, arith, refl, subst, suc, sym, zero, ℕ}

pub Steps-map : {K : Type 0} (R S : K → K → Type 0) → ((a b : K) → R a b → S a b) → (n : ℕ) (a c : K) → Steps R n a c → Steps S n a c
Steps-map R S on zero a c walk = walk
Steps-map R S on (suc n) a c walk = (walk.0, Steps-map R S on n a walk.0 walk.1, on walk.0 c walk.2)

-- a step before a walk
pub Steps-cons : {K : Type 0} (R : K → K → Type 0) (n : ℕ) (a b c : K) → R a b → Steps R n b c → Steps R (suc n) a c
Steps-cons {K} R zero a b c step walk = (a, refl, subst (λ (x : K). R a x) walk step)
Steps-cons R (suc n) a b c step walk = (walk.0, Steps-cons R n a b walk.0 step walk.1, walk.2)

-- the first step of a walk, and the rest
pub Steps-first : {K : Type 0} (R : K → K → Type 0) (n : ℕ) (a c : K) → Steps R (suc n) a c → (b : K) × R a b × Steps R n b c
Steps-first {K} R zero a c walk = (c, subst (λ (x : K). R x c) (sym walk.1) walk.2, refl)
Steps-first R (suc n) a c walk = grind (arith, Steps-first R n a walk.0 walk.1)

-- a walk turned round
pub Steps-turn : {K : Type 0} (R S : K → K → Type 0) → ((a b : K) → R a b → S b a) → (n : ℕ) (a c : K) → Steps R n a c → Steps S n c a
Steps-turn R S on zero a c walk = sym walk
Steps-turn R S on (suc n) a c walk = Steps-cons S n c walk.0 a (on walk.0 c walk.2) (Steps-turn R S on n a walk.0 walk.1)

pub IsReachedBy-map : {K : Type 0} (R S : K → K → Type 0) (P Q : K → Type 0) → ((a b : K) → R a b → S a b) → ((a : K) → P a → Q a) →
    (n : ℕ) (c : K) → IsReachedBy R P n c → IsReachedBy S Q n c
IsReachedBy-map R S P Q on at n c by = (by.0, at by.0 by.1, Steps-map R S on n by.0 c by.2)

-- levels are the same over the same steps and starts
pub IsLevel-same : {K : Type 0} (R S : K → K → Type 0) (P Q : K → Type 0) → ((a b : K) → R a b → S a b) → ((a b : K) → S a b → R a b) →
    ((a : K) → P a → Q a) → ((a : K) → Q a → P a) → (c : K) (n : ℕ) → IsStepLevel R P c n → IsStepLevel S Q c n
IsLevel-same R S P Q on back at from c n level = record {
  reached = IsReachedBy-map R S P Q on at n c level.reached;
  least = λ k by. level.least k (IsReachedBy-map S R Q P back from k c by);
}

-- what holds of the starts, and at the end of a step where it holds at its beginning, holds of all that is reached
pub reached_has : {K : Type 0} (R : K → K → Type 0) (P Q : K → Type 0) → ((a : K) → P a → Q a) → ((a b : K) → Q a → R a b → Q b) → (n : ℕ) (c : K) → IsReachedBy R P n c → Q c
reached_has {K} R P Q start on zero c by = subst (λ (x : K). Q x) by.2 (start by.0 by.1)
reached_has R P Q start on (suc n) c by = on by.2.0 c (reached_has R P Q start on n by.2.0 (by.0, by.1, by.2.1)) by.2.2
