-- Walks of so many steps, and levels.
use Rattle.std.specs.Prelude.{◌≡◌, ℕ, ◌≤◌}
use Rattle.std.proofs.Common.{zero, suc}

-- a walk of n steps leads from the first to the second
abbrev pub Steps : {K : Type 0} → (K → K → Type 0) → ℕ → K → K → Type 0
Steps Step zero a c = a ≡ c
Steps {K} Step (suc n) a c = (b : K) × Steps Step n a b × Step b c

-- a walk of n steps leads from some start to c
abbrev pub IsReachedBy : {K : Type 0} → (K → K → Type 0) → (K → Type 0) → ℕ → K → Type 0
IsReachedBy {K} Step IsStart n c = (a : K) × IsStart a × Steps Step n a c

-- The level of c is the least number of steps from some start to c.
pub record IsStepLevel {K : Type 0} (Step : K → K → Type 0) (IsStart : K → Type 0) (c : K) (n : ℕ) : Type 0 where
  pub reached : IsReachedBy Step IsStart n c
  pub least : (k : ℕ) → IsReachedBy Step IsStart k c → n ≤ k
