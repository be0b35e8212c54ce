-- Memories that are filled table by table.
use Rattle.std.proofs.Common.{◌≡◌, ◌≢◌, ℕ, zero, suc, ◌+◌, ◌*◌, ◌<◌, ◌≤◌, eqb, cond, List, [], ◌∷◌, ◌++◌, length, get_or, set, take, drop, replicate, refl, sym, ap, ◌∙◌, arith, Some, slice_get}
use Rattle.std.proofs.Common.{append_assoc, inl, inr}
use Rattle.std.proofs.{Math.Nat.mul-le-mul_left, Math.Seq.drop-cons, Math.Seq.take-length, lemmas.Bool.cases_eq, lemmas.Bool.eq-eqb, lemmas.Bool.ne_eqb, lemmas.List.set_at, lemmas.List.length-take-le}
use Rattle.std.proofs.lemmas.List.{take_more, length-set, get_or-take, length-replicate, drop-replicate, get_or_default}
use Rattle.spin_base.specs.declared.{blocks.Entry.Entry, chips.Chip.Chip, blocks.ChipTable.ChipTable}
use Rattle.tcam_find.specs.Memory.{unused, empty_memory}
use Rattle.spin_base.proofs.Places.{slice_get-set_same, slice_get-set_other}
use Rattle.table_load.specs.{declared.tables.Image.Image, Images.IsValid, Images.IsChipBefore, Memories.table_index, Memories.rows_of_index, Memories.loaded}

pub empty_is : empty_memory ≡ loaded []
unfolding empty_memory
empty_is = refl

-- ---- rows from place 0 on

pub rows_more : (rows : List Entry) (p : ℕ) (x : Entry) (m n : List Entry) → length rows ≤ 1024 → p < length rows → x ≡ get_or rows p x
    → m ≡ take p rows ++ drop p empty_memory → n ≡ set m p x → n ≡ take (p + 1) rows ++ drop (p + 1) empty_memory
unfolding empty_memory
rows_more rows p x m n few inside is before given =
    let b = take p rows in
    let ys = drop (suc p) empty_memory in
    let rest : drop p empty_memory ≡ get_or empty_memory p x ∷ ys = drop-cons empty_memory p x (omega (arith, length-replicate 1024 unused)) in
    let more : take (p + 1) rows ≡ b ++ x ∷ [] = take_more rows p x inside ∙ ap (λ z. b ++ z ∷ []) (sym is) in
    let next : suc p ≡ p + 1 = omega arith in
    given
    ∙ ap (λ l. set l p x) (before ∙ ap (λ l. b ++ l) rest)
    ∙ set_at b (get_or empty_memory p x) ys x p (length-take-le p rows (omega arith))
    ∙ sym (append_assoc b (x ∷ []) ys)
    ∙ ap (λ l. l ++ ys) (sym more)
    ∙ ap (λ k. take (p + 1) rows ++ drop k empty_memory) next

pub rows_loaded : (rows new : List Entry) (at : ℕ) → at ≡ length rows → new ≡ take at rows ++ drop at empty_memory → new ≡ loaded rows
unfolding empty_memory
rows_loaded rows new at all put =
    put
    ∙ ap (λ n. take n rows ++ drop n empty_memory) all
    ∙ ap (λ l. l ++ drop (length rows) empty_memory) (take-length rows)
    ∙ ap (λ l. rows ++ l) (drop-replicate (length rows) 1024 unused)

-- ---- memories of all chips

get_replicate : (n i : ℕ) (m : List Entry) → i < n → slice_get (replicate n m) i ≡ Some m
get_replicate zero i m lt = absurd (omega arith)
get_replicate (suc n) zero m lt = refl
get_replicate (suc n) (suc i) m lt = get_replicate n i m (omega arith)

pub all_empty : (n : ℕ) (ms : List (List Entry)) → ms ≡ replicate n empty_memory
    → (length ms ≡ n) × ((i : ℕ) → i < n → slice_get ms i ≡ Some (loaded []))
all_empty n ms e = grind (arith, length-replicate, slice_get, get_replicate, empty_is)

-- no table of the list is of that chip
abbrev Without : ℕ → List ChipTable → ℕ → Type 0
Without h ts i = (j : ℕ) (d : ChipTable) → j < length ts → table_index h (get_or ts j d) ≢ i

rows_here : (h : ℕ) (ts : List ChipTable) (t : ChipTable) (i : ℕ) → Without h ts i → table_index h t ≡ i → rows_of_index h (ts ++ t ∷ []) i ≡ t.entries
rows_here h [] t i none here = rw (eq-eqb (table_index h t) i here) refl
rows_here h (s ∷ ts) t i none here =
    let first = ne_eqb (table_index h s) i (none 0 s (omega arith)) in
    rw first (rows_here h ts t i (λ j d lt. none (suc j) d (omega arith)) here)

rows_other : (h : ℕ) (ts : List ChipTable) (t : ChipTable) (i : ℕ) → table_index h t ≢ i → rows_of_index h (ts ++ t ∷ []) i ≡ rows_of_index h ts i
rows_other h [] t i other = rw (ne_eqb (table_index h t) i other) refl
rows_other h (s ∷ ts) t i other = ap (λ r. cond (eqb (table_index h s) i) s.entries r) (rows_other h ts t i other)

-- an earlier chip has a lower index
lower : (h : ℕ) (a b : Chip) → a.y < h → IsChipBefore a b → a.x * h + a.y < b.x * h + b.y
lower h a b low (inl less) = let wide = mul-le-mul_left h less in omega (arith, wide)
lower h a b low (inr same) = let e = ap (λ x. x * h) same.0 in let less = same.1 in omega (arith, e, less)

module _ (v : Image) (valid : IsValid v) (k : ℕ) (t : ChipTable) (inside : k < length v.chips) (is : t ≡ get_or v.chips k t) where
  abbrev at : ℕ
  at = table_index v.height t

  -- the index is one of the grid's
  pub in_grid : at < v.width * v.height
  in_grid = grind (arith, mul-le-mul_left)

  apart : Without v.height (take k v.chips) at
  apart j d lt =
      let before : j < k = omega (arith, length-take-le k v.chips (omega arith)) in
      let same = get_or-take k v.chips j d before in
      let t_is : get_or v.chips k d ≡ t = get_or_default v.chips k d t inside ∙ sym is in
      let less = lower v.height (get_or v.chips j d).chip (get_or v.chips k d).chip (valid.tables j d (omega arith)).inside.1 (valid.ordered j k d before inside) in
      let a = ap (table_index v.height) same in
      let b = ap (table_index v.height) t_is in
      λ e. absurd (omega (arith, less, a, b, e))

  module _ (ms : List (List Entry)) (long : length ms ≡ v.width * v.height)
      (each : (i : ℕ) → i < v.width * v.height → slice_get ms i ≡ Some (loaded (rows_of_index v.height (take k v.chips) i))) where
    pub load_more : (m : List Entry) → m ≡ loaded t.entries
        → (length (set ms at m) ≡ v.width * v.height)
        × ((i : ℕ) → i < v.width * v.height → slice_get (set ms at m) i ≡ Some (loaded (rows_of_index v.height (take (k + 1) v.chips) i)))
    load_more m full =
        let more : take (k + 1) v.chips ≡ take k v.chips ++ t ∷ [] = take_more v.chips k t inside ∙ ap (λ s. take k v.chips ++ s ∷ []) (sym is) in (
          length-set ms at m ∙ long,
          λ i lt. elim (cases_eq i at) [
            | inl here ↦ (
                ap (slice_get (set ms at m)) here
                ∙ slice_get-set_same ms at (loaded (rows_of_index v.height (take k v.chips) at)) m (each at in_grid)
                ∙ ap Some full
                ∙ ap (λ r. Some (loaded r)) (sym (rows_here v.height (take k v.chips) t at apart refl))
                ∙ ap (λ l. Some (loaded (rows_of_index v.height l at))) (sym more)
                ∙ ap (λ j. Some (loaded (rows_of_index v.height (take (k + 1) v.chips) j))) (sym here)
                )
            | inr other ↦ (
                slice_get-set_other ms at i m other
                ∙ each i lt
                ∙ ap (λ r. Some (loaded r)) (sym (rows_other v.height (take k v.chips) t i (λ e. other (sym e))))
                ∙ ap (λ l. Some (loaded (rows_of_index v.height l i))) (sym more)
                )
          ],
        )
