-- A sound table with one row more, and with the pieces of a row, is sound; and a sound table routes its aliases.
use Rattle.table_rules.proofs.Common.{Alias, All, All-append, All-cons, All-drop, All-flat_map, All-head, All-map, All-nil, All-tail, All-take, AllAcross, AllPairs, AllPairs-across, AllPairs-append}
use Rattle.table_rules.proofs.Common.{AllPairs-cons, AllPairs-head, AllPairs-left, AllPairs-right, AllPairs-tail, Block, Contains, Contains-append_cases, Contains-append_left, Contains-append_right}
use Rattle.table_rules.proofs.Common.{GoesBy, HoldsItsAliases, Intersects, IsSound, LiesIn, List, Matches, Misses, Original, PassesDown, RoutedBlock, Row, [], alias_of, ap, arith, cases_lt, drop}
use Rattle.table_rules.proofs.Common.{flat_map-append, generality, get_or, get_or-drop, get_or-take, inl, inr, insert, length, length-drop, length-take, map, piece_row, place_for, place_for-above}
use Rattle.table_rules.proofs.Common.{place_for-below, refl, routed, served, served_by, subst, suc, sym, take, take-append-drop, with_row, with_rows, zero, ℕ, ◌++◌, ◌+◌, ◌<◌, ◌^◌, ◌∙◌, ◌∷◌, ◌≡◌, ◌≤◌}
use Rattle.table_rules.proofs.FirstRows.{first_hit, first_miss}

-- ---- lists with one item more

pub all_insert : {X : Type 0} (P : X → Type 0) (xs : List X) (n : ℕ) (x : X) → All P xs → P x → All P (insert xs n x)
all_insert P xs n x all this = All-append P (take n xs) (x ∷ drop n xs) (All-take P n xs all) (All-cons P x (drop n xs) this (All-drop P n xs all))

pairs_insert : {X : Type 0} (R : X → X → Type 0) (xs : List X) (n : ℕ) (m : X) → AllPairs R xs → All (λ x. R x m) (take n xs) → All (R m) (drop n xs) → AllPairs R (insert xs n m)
pairs_insert R xs n m all into out =
    let whole : AllPairs R (take n xs ++ drop n xs) = subst (AllPairs R) (sym (take-append-drop n xs)) all in
    let crossing : AllAcross R (take n xs) (drop n xs) = AllPairs-across R (take n xs) (drop n xs) whole in
    AllPairs-append R (take n xs) (m ∷ drop n xs)
    (AllPairs-left R (take n xs) (drop n xs) whole)
    (AllPairs-cons R m (drop n xs) out (AllPairs-right R (take n xs) (drop n xs) whole))
    (λ k d within. All-cons (R (get_or (take n xs) k d)) m (drop n xs) (into k d within) (crossing k d within))

-- ---- a sound table with one row more

module _ (rows : List Row) (row : Row) (sound : IsSound rows) where
  n : ℕ
  n = place_for rows (generality row.block)

  below : All (λ (x : Row). generality x.block ≤ generality row.block) (take n rows)
  unfolding n
  below k d within = grind (arith, n, length-take, get_or-take, place_for-below)

  at_drop : (k : ℕ) → k < length (drop n rows) → n + k < length rows
  at_drop k within = omega (arith, within, length-drop n rows)

  above : All (λ (x : Row). generality row.block ≤ generality x.block) (drop n rows)
  unfolding n
  above k d within =
      subst (λ (x : Row). generality row.block ≤ generality x.block) (sym (get_or-drop n rows k d)) (
      elim (cases_lt (generality row.block) (generality (get_or rows (n + k) d).block)) [
        | inl less ↦ omega (arith, less)
        | inr most ↦ absurd (omega (arith, place_for-above rows (generality row.block) sound.ordered (n + k) d (at_drop k within) most))
      ])

  pub sound_with : HoldsItsAliases row → All (λ (r : Row). Misses r.block row) rows → PassesDown rows row.block (place_for rows (generality row.block)) → IsSound (with_row rows row)
  unfolding n
  sound_with holds unmet down = record {
    ordered = pairs_insert (λ (r s : Row). generality r.block ≤ generality s.block) rows n row sound.ordered below above;
    inside = all_insert HoldsItsAliases rows n row sound.inside holds;
    unmet = pairs_insert (λ (r s : Row). Misses r.block s) rows n row sound.unmet (All-take (λ (r : Row). Misses r.block row) n rows unmet)
        (λ k d within. subst (Misses row.block) (sym (get_or-drop n rows k d)) (down (n + k) d (omega arith) (at_drop k within)));
  }

-- ---- with the pieces of a row

module _ (given : RoutedBlock) where
  pub sound_with_pieces : (pieces : List Block) (rows : List Row) → IsSound rows → All (λ (r : Row). All (λ (p : Block). Intersects r.block p → ⊥) pieces) rows
      → AllPairs (λ (p q : Block). Intersects p q → ⊥) pieces → IsSound (with_rows rows (map (piece_row given) pieces))
  sound_with_pieces [] rows sound clear apart = sound
  sound_with_pieces (p ∷ pieces) rows sound clear apart =
      sound_with_pieces pieces (with_row rows (piece_row given p))
      (sound_with rows (piece_row given p) sound
      (All-cons (λ (a : Alias). LiesIn a.block p) (alias_of given.port p) [] (λ k small m. m) (All-nil (λ (a : Alias). LiesIn a.block p)))
      (λ k d within. All-cons (λ (a : Alias). Intersects (get_or rows k d).block a.block → ⊥) (alias_of given.port p) [] (here k d within) (All-nil (λ (a : Alias). Intersects (get_or rows k d).block a.block → ⊥)))
      (λ r d from within m e inside met.
      here r d within (record { key = met.key; small = met.small; first = sound.inside r d within m e inside met.key met.small met.second; second = met.first })))
      (all_insert (λ (r : Row). All (λ (q : Block). Intersects r.block q → ⊥) pieces) rows (place_for rows (generality p)) (piece_row given p)
      (λ k d within. All-tail (λ (q : Block). Intersects (get_or rows k d).block q → ⊥) p pieces (clear k d within))
      (AllPairs-head (λ (x y : Block). Intersects x y → ⊥) p pieces apart))
      (AllPairs-tail (λ (x y : Block). Intersects x y → ⊥) p pieces apart)
    where
      here : (k : ℕ) (d : Row) → k < length rows → Intersects (get_or rows k d).block p → ⊥
      here k d within = All-head (λ (q : Block). Intersects (get_or rows k d).block q → ⊥) p pieces (clear k d within)

pub all_with_rows : (P : Row → Type 0) (news rows : List Row) → All P rows → All P news → All P (with_rows rows news)
all_with_rows P [] rows all these = all
all_with_rows P (r ∷ news) rows all these =
    all_with_rows P news (with_row rows r) (all_insert P rows (place_for rows (generality r.block)) r all (All-head P r news these)) (All-tail P r news these)

-- ---- what a table serves, with rows more

module _ (rows : List Row) (row : Row) (o : Original) where
  m : ℕ
  m = place_for rows (generality row.block)

  served_parts : served (with_row rows row) ≡ served (take m rows) ++ (served_by row ++ served (drop m rows))
  unfolding m
  served_parts = flat_map-append served_by (take m rows) (row ∷ drop m rows)

  pub served_keeps : Contains (served rows) o → Contains (served (with_row rows row)) o
  served_keeps among =
      let both : served rows ≡ served (take m rows) ++ served (drop m rows) = ap served (sym (take-append-drop m rows)) ∙ flat_map-append served_by (take m rows) (drop m rows) in
      subst (λ l. Contains l o) (sym served_parts) (
      elim (Contains-append_cases (served (take m rows)) (served (drop m rows)) o (subst (λ l. Contains l o) both among)) [
        | inl left ↦ Contains-append_left (served (take m rows)) (served_by row ++ served (drop m rows)) o left
        | inr right ↦ Contains-append_right (served (take m rows)) (served_by row ++ served (drop m rows)) o (Contains-append_right (served_by row) (served (drop m rows)) o right)
      ])

  pub served_new : Contains (served_by row) o → Contains (served (with_row rows row)) o
  served_new among =
      subst (λ l. Contains l o) (sym served_parts)
      (Contains-append_right (served (take m rows)) (served_by row ++ served (drop m rows)) o (Contains-append_left (served_by row) (served (drop m rows)) o among))

pub served_keeps_all : (news rows : List Row) (o : Original) → Contains (served rows) o → Contains (served (with_rows rows news)) o
served_keeps_all [] rows o among = among
served_keeps_all (r ∷ news) rows o among = served_keeps_all news (with_row rows r) o (served_keeps rows r o among)

pub served_news : (news rows : List Row) (i : ℕ) (d : Row) (o : Original) → i < length news → Contains (served_by (get_or news i d)) o → Contains (served (with_rows rows news)) o
served_news [] rows i d o within among = absurd (omega arith)
served_news (r ∷ news) rows zero d o within among = served_keeps_all news (with_row rows r) o (served_new rows r o among)
served_news (r ∷ news) rows (suc i) d o within among = served_news news (with_row rows r) i d o (omega arith) among

-- ---- a sound table routes its aliases

pub tail_sound : (r : Row) (rows : List Row) → IsSound (r ∷ rows) → IsSound rows
tail_sound r rows sound = record {
  ordered = AllPairs-tail (λ (x y : Row). generality x.block ≤ generality y.block) r rows sound.ordered;
  inside = All-tail HoldsItsAliases r rows sound.inside;
  unmet = AllPairs-tail (λ (x y : Row). Misses x.block y) r rows sound.unmet;
}

goes : (rows : List Row) → IsSound rows → (j : ℕ) (d : Row) → j < length rows → (i : ℕ) (e : Alias) → i < length (get_or rows j d).aliases
    → (k : ℕ) → k < 2 ^ 32 → Matches (get_or (get_or rows j d).aliases i e).block k → GoesBy (map routed rows) k (get_or rows j d).route
goes [] sound j d within i e inside k small hit = absurd (omega arith)
goes (r ∷ rows) sound zero d within i e inside k small hit = record {
  row = routed r;
  first = first_hit (routed r) (map routed rows) k (sound.inside 0 d within i e inside k small hit);
  by = refl;
}
goes (r ∷ rows) sound (suc j) d within i e inside k small hit =
    let rest = goes rows (tail_sound r rows sound) j d (omega arith) i e inside k small hit in record {
      row = rest.row;
      first = first_miss (routed r) (map routed rows) k (λ met. sound.unmet 0 (suc j) d (omega arith) within i e inside (record { key = k; small = small; first = met; second = hit })) ∙ rest.first;
      by = rest.by;
    }

-- the keys of an original block go by its route
abbrev pub GoesWhere : List Row → Original → Type 0
GoesWhere rows o = (k : ℕ) → k < 2 ^ 32 → Matches o.block k → GoesBy (map routed rows) k o.route

pub all_go : (rows : List Row) → IsSound rows → All (GoesWhere rows) (served rows)
all_go rows sound =
    All-flat_map (GoesWhere rows) served_by rows (λ j d within.
    let r = get_or rows j d in
    All-map (GoesWhere rows) (λ (a : Alias). let o : Original = record { block = a.block; port = a.port; route = r.route } in o) r.aliases (λ i e inside k small hit. goes rows sound j d within i e inside k small hit))
