-- Lists whose items are each determined by the items before them.
use Rattle.std.proofs.Common.{◌≡◌, ℕ, zero, suc, ◌+◌, ◌≤◌, List, [], ◌∷◌, ◌++◌, length, take, Some, refl, sym, ap, ap₂, ◌∙◌, subst, arith}
use Rattle.std.specs.List.{slice_get}
use Rattle.std.proofs.lemmas.List.{take_all}
use Rattle.spin_base.proofs.Places.{slice_get_there, take_more_at}

module _ {X : Type 0} (R : List X → ℕ → X → Type 0) (one : (before : List X) (n : ℕ) (x y : X) → R before n x → R before n y → x ≡ y) where
  -- each item is as R asks of what stands after these
  abbrev pub EachFollows : List X → Type 0
  EachFollows xs = (n : ℕ) (x : X) → slice_get xs n ≡ Some x → R (take n xs) n x

  -- two such lists agree as far as both go
  pub determined_agree : (xs ys : List X) → EachFollows xs → EachFollows ys → (n : ℕ) → n ≤ length xs → n ≤ length ys → take n xs ≡ take n ys
  determined_agree xs ys a b zero in_xs in_ys = refl
  determined_agree xs ys a b (suc n) in_xs in_ys =
      let before = determined_agree xs ys a b n (omega arith) (omega arith) in
      let x = slice_get_there xs n (omega arith) in
      let y = slice_get_there ys n (omega arith) in
      let same : x.0 ≡ y.0 = one (take n ys) n x.0 y.0 (subst (λ l. R l n x.0) before (a n x.0 x.1)) (b n y.0 y.1) in
      let up : suc n ≡ n + 1 = omega arith in
      ap (λ k. take k xs) up
      ∙ (take_more_at xs n x.0 x.1
      ∙ (ap₂ (λ (l : List X) (z : X). l ++ z ∷ []) before same
      ∙ (sym (take_more_at ys n y.0 y.1) ∙ ap (λ k. take k ys) (sym up))))

  -- the shorter is the beginning of the longer
  pub determined_begins : (xs ys : List X) → EachFollows xs → EachFollows ys → length xs ≤ length ys → take (length xs) ys ≡ xs
  determined_begins xs ys a b le = sym (determined_agree xs ys a b (length xs) (omega arith) le) ∙ take_all (length xs) xs (omega arith)
