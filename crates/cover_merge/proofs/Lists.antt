-- What holds of the picked items of a list, and of all pairs of a list.
use Rattle.cover_merge.proofs.Common.{All, All-cons, All-head, All-nil, All-tail, AllPairs, AllPairs-cons, Bool, List, [], ap, arith, cases_eq, cond, drop, false, get_or, get_or-set_at}
use Rattle.cover_merge.proofs.Common.{get_or-set_other, inl, inr, length, picked, refl, set, subst, suc, sym, take, take-append-drop, true, zero, ℕ, ◌++◌, ◌+◌, ◌<◌, ◌∙◌, ◌∷◌, ◌≡◌, ◌≢◌}
pub use Rattle.spin_base.proofs.Pairs.{All-left, All-right, All-from_map, All-flat_map, All-from_flat_map, AllPairs-nil, AllPairs-head, AllPairs-tail, AllAcross, AllPairs-append, AllPairs-left, AllPairs-right, AllPairs-across}

-- what is made of both arms is made of the one that is taken
pub cond_of : {A B : Type 0} (f : A → B) (b : Bool) (x y : A) → cond b (f x) (f y) ≡ f (cond b x y)
cond_of f true x y = refl
cond_of f false x y = refl

-- what holds at both answers of a test holds at its own
pub cond_same : (P : Bool → Type 0) (b : Bool) → P true → P false → P b
cond_same P true on off = on
cond_same P false on off = off

-- what holds of the item that is written, and of the others at their places, holds of each item
pub written_at : {X : Type 0} (P : ℕ → X → Type 0) (xs : List X) (c : ℕ) (v d : X) → c < length xs → P c v → ((k : ℕ) → k ≢ c → P k (get_or xs k d)) → (k : ℕ) → P k (get_or (set xs c v) k d)
written_at P xs c v d inside here others k = elim (cases_eq k c) [
  | inl same ↦ subst (P k) (sym (get_or-set_at xs c k v d same inside)) (subst (λ i. P i v) (sym same) here)
  | inr apart ↦ subst (P k) (sym (get_or-set_other xs c k v d apart)) (others k apart)
]
