-- Rows that a block meets, and a rival that is put into a list.
use Rattle.cover_merge.proofs.Common.{AllPairs, AllPairs-filter, Block, IsLegalMerge, IsPutIn, IsSound, List, PassesDown, Rival, Row, [], ap, arith, cases_lt, get_or, get_or-set_at, get_or_default}
use Rattle.cover_merge.proofs.Common.{inl, inr, insert, insert_place, is_at_one, length, length-set, not, rivals_left, set, subst, sym, ℕ, ◌<◌, ◌∙◌, ◌≡◌, ◌≤◌}
use Rattle.cover_merge.proofs.Legal.{down_from_legal}

-- ---- rows that a block meets

-- a legal merge meets no alias of a row from its place on
pub missed_behind : (rows : List Row) (places : List ℕ) (block : Block) (place : ℕ) → IsSound rows → IsLegalMerge rows places block → place ≡ insert_place rows places → PassesDown rows block place
missed_behind rows places block place sound merge at = grind (arith, down_from_legal rows places sound merge.set.set.in_range merge.legal)

-- ---- a rival that is put in

-- the rival at its place is more general, and so are those behind it
pub put_before : (v x : Rival) (old new : List Rival) (at : ℕ) → AllPairs (λ (v w : Rival). v.general ≤ w.general) old → at < length old → ((k : ℕ) (e : Rival) → k < at → (get_or old k e).general ≤ v.general)
    → x ≡ get_or old at x → v.general < x.general → new ≡ insert old at v → IsPutIn v old new
put_before v x old new at ordered inside before read more is =
    let here : (e : Rival) → v.general ≤ (get_or old at e).general = λ e. let same : x ≡ get_or old at e = read ∙ get_or_default old at x e inside in
    let g = ap (λ (y : Rival). y.general) same in
    omega (arith, g, more) in
    let behind : (k : ℕ) (e : Rival) → at ≤ k → k < length old → v.general ≤ (get_or old k e).general = λ k e from within. elim (cases_lt at k) [
      | inl later ↦ omega (arith, here e, ordered at k e later within)
      | inr last ↦ let same : at ≡ k = omega (arith, from, last) in subst (λ m. v.general ≤ (get_or old m e).general) same (here e)
    ] in
    record {
      at = at;
      within = omega (arith, inside);
      before = before;
      behind = behind;
      result = is;
    }

-- ---- the rivals of one row

module _ (serials places : List ℕ) (of : List (List Rival)) (serial place : ℕ) (same : serial ≡ place) (inside : place < length of) (left : List Rival) where
  -- what is left of the list that was read
  pub left_is : (read list : List Rival) → read ≡ get_or of serial read → list ≡ read → left ≡ rivals_left serials places list → left ≡ rivals_left serials places (get_or of place [])
  left_is read list found taken is = is ∙ ap (rivals_left serials places) (taken ∙ found ∙ ap (λ n. get_or of n read) same ∙ get_or_default of place read [] inside)

  -- it is in order, too
  pub left_ordered : AllPairs (λ (v w : Rival). v.general ≤ w.general) (get_or of place []) → left ≡ rivals_left serials places (get_or of place []) → AllPairs (λ (v w : Rival). v.general ≤ w.general) left
  left_ordered ordered is =
      subst (AllPairs (λ (v w : Rival). v.general ≤ w.general)) (sym is)
      (AllPairs-filter (λ (v w : Rival). v.general ≤ w.general) (λ (v : Rival). not (is_at_one serials places v.serial)) (get_or of place []) ordered)

  -- the list that is written, the second at this place
  pub put_written : (merged : Rival) (new first list : List Rival) → left ≡ rivals_left serials places (get_or of place []) → list ≡ new → IsPutIn merged left new
      → IsPutIn merged (rivals_left serials places (get_or of place [])) (get_or (set (set of serial first) serial list) place [])
  put_written merged new first list is made put = grind (arith, get_or-set_at (set of serial first) serial place list, length-set of serial first, get_or (set (set of serial first) serial list) place)
