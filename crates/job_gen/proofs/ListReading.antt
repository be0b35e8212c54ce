-- Lists of items that have no fault, and what they are.
use Rattle.job_gen.proofs.Common.{All, All-head, All-tail, Data, JobFault, List, [], ap, arith, decimal, item_at, length, map, map_push, refl, subst, suc, sym, ℕ, ◌++◌, ◌+◌, ◌<◌, ◌∙◌, ◌∷◌, ◌≡◌, ◌≤◌}
use Rattle.job_readers.specs.Items.{following_faults, items_faults}
use Rattle.job_gen.specs.Values.{numbered}
use Rattle.job_gen.proofs.NameLemmas.{AreBelow, below_more}

-- items none of which has a fault
pub items_clean : {X : Type 0} (P : X → Type 0) (f : List ℕ → Data → List JobFault) (g : X → Data) → ((path : List ℕ) (x : X) → P x → f path (g x) ≡ [])
    → (path : List ℕ) (i : ℕ) (xs : List X) → All P xs → items_faults f path i (map g xs) ≡ []
unfolding items_faults
items_clean P f g each path i [] all = refl
items_clean P f g each path i (x ∷ xs) all = grind (arith, All-head P x xs all, items_clean P f g each path (i + 1) xs (All-tail P x xs all), All-tail P x xs all)

-- what they are
pub items_are : {X A : Type 0} (P : X → Type 0) (value : Data → A) (g : X → Data) (h : X → A) → ((x : X) → P x → value (g x) ≡ h x)
    → (xs : List X) → All P xs → map value (map g xs) ≡ map h xs
items_are P value g h each [] all = refl
items_are P value g h each (x ∷ xs) all = rw (each x (All-head P x xs all), items_are P value g h each xs (All-tail P x xs all)) refl

-- what numbered items are
pub numbered_are : {X Y A : Type 0} (P : X → Type 0) (value : Y → A) (g : ℕ → X → Y) (h : ℕ → X → A) → ((i : ℕ) (x : X) → P x → value (g i x) ≡ h i x)
    → (i : ℕ) (xs : List X) → All P xs → map value (numbered g i xs) ≡ numbered h i xs
unfolding numbered
numbered_are P value g h each i [] all = refl
numbered_are P value g h each i (x ∷ xs) all = grind (arith, All-head P x xs all, numbered_are P value g h each (i + 1) xs (All-tail P x xs all), All-tail P x xs all)

pub length-numbered : {X A : Type 0} (f : ℕ → X → A) (i : ℕ) (xs : List X) → length (numbered f i xs) ≡ length xs
unfolding numbered
length-numbered f i [] = refl
length-numbered f i (x ∷ xs) = ap suc (length-numbered f (i + 1) xs)

-- Numbered items none of which has a fault after those before it, whose names are those of lower numbers.
pub following_clean : {X A : Type 0} (P : X → Type 0) (c : ℕ) (name : A → List ℕ) (f : List A → List ℕ → Data → List JobFault) (value : Data → A) (g : ℕ → X → Data)
    → ((before : List A) (path : List ℕ) (i : ℕ) (x : X) → AreBelow c i (map name before) → i < 1000 → P x → f before path (g i x) ≡ [])
    → ((i : ℕ) (x : X) → name (value (g i x)) ≡ c ∷ decimal i)
    → (before : List A) (path : List ℕ) (k i : ℕ) (xs : List X) → AreBelow c i (map name before) → i + length xs ≤ 1000 → All P xs
    → following_faults f value before path k (numbered g i xs) ≡ []
unfolding following_faults numbered
following_clean P c name f value g each names before path k i [] below small all = refl
following_clean P c name f value g each names before path k i (x ∷ xs) below small all =
    let more : AreBelow c (i + 1) (map name (before ++ value (g i x) ∷ [])) =
    subst (AreBelow c (i + 1)) (sym (map_push name before (value (g i x)) ∙ ap (λ s. map name before ++ s ∷ []) (names i x))) (below_more c i (map name before) below) in
    rw (
      each before (item_at path k) i x below (omega arith) (All-head P x xs all),
      following_clean P c name f value g each names (before ++ value (g i x) ∷ []) path (k + 1) (i + 1) xs more (omega arith) (All-tail P x xs all),
    ) refl
