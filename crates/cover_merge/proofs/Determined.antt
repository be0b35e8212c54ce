-- At most one refined set, one chosen merge, one covered table.
use Rattle.cover_merge.proofs.Common.{Alias, Block, Covered, Covers, HasNoChosen, HasNoLargest, IsBestBit, IsChosen, IsDownStep, IsFirstLegalPair, IsFirstMet, IsFirstMetFrom, IsLargest, IsLastFailing}
use Rattle.cover_merge.proofs.Common.{IsNoRival, IsUpStep, List, Merge, Misses, PassesDown, PassesUpCheck, Refines, Route, Row, [], after, ap, arith, cases_order, ends_empty, ends_legal, get_or}
use Rattle.cover_merge.proofs.Common.{get_or_from_slice_get, goes_down, goes_up, inl, inr, insert_place, length, merge_rows, merged, merged_block, places_of, refl, rules, set_without, sets_of, short}
use Rattle.cover_merge.proofs.Common.{slice_get_within, stuck, subst, sym, ℕ, ◌<◌, ◌∙◌, ◌∷◌, ◌≡◌, ◌≤◌}
use Rattle.cover_merge.proofs.ChooseLemmas.{route_cases}

-- ---- the first alias that a block meets

first_alias : (b : Block) (aliases : List Alias) (met : Block) (first : IsFirstMet b aliases met) (d : Alias) → (get_or aliases first.at d).block ≡ met
first_alias b aliases met first d = ap (λ (a : Alias). a.block) (get_or_from_slice_get aliases first.at first.alias d first.found) ∙ first.block

one_first : (b : Block) (aliases : List Alias) (met other : Block) → IsFirstMet b aliases met → IsFirstMet b aliases other → met ≡ other
one_first b aliases met other one two = grind (arith, cases_order one.at two.at, first_alias b aliases met one one.alias, first_alias b aliases other two one.alias, get_or, first_alias)

pub met_not_missed : (b : Block) (row : Row) (met : Block) → IsFirstMet b row.aliases met → Misses b row → ⊥
met_not_missed b row met first misses = grind (arith, slice_get_within row.aliases first.at first.alias first.found, first_alias b row.aliases met first first.alias)

module _ (rows : List Row) where
  -- ---- the same in rows

  met_row : (b : Block) (p : ℕ) (met : Block) (first : IsFirstMetFrom rows b p met) (d : Row) → get_or rows first.at d ≡ first.row
  met_row b p met first d = get_or_from_slice_get rows first.at first.row d first.found

  met_not_later : (b : Block) (p : ℕ) (met other : Block) (one : IsFirstMetFrom rows b p met) (two : IsFirstMetFrom rows b p other) → one.at < two.at → ⊥
  met_not_later b p met other one two less = met_not_missed b one.row met one.first (subst (Misses b) (met_row b p met one one.row) (two.before one.at one.row one.from less))

  one_met : (b : Block) (p : ℕ) (met other : Block) → IsFirstMetFrom rows b p met → IsFirstMetFrom rows b p other → met ≡ other
  one_met b p met other one two = elim (cases_order one.at two.at) [
    | inl same ↦
        let row : one.row ≡ two.row = sym (met_row b p met one one.row) ∙ ap (λ n. get_or rows n one.row) same ∙ met_row b p other two one.row in
        one_first b two.row.aliases met other (subst (λ (r : Row). IsFirstMet b r.aliases met) row one.first) two.first
    | inr (inl less) ↦ absurd (met_not_later b p met other one two less)
    | inr (inr more) ↦ absurd (met_not_later b p other met two one more)
  ]

  pub met_fails : (b : Block) (p : ℕ) (met : Block) → IsFirstMetFrom rows b p met → PassesDown rows b p → ⊥
  met_fails b p met first passes =
      met_not_missed b first.row met first.first (subst (Misses b) (met_row b p met first first.row) (passes first.at first.row first.from (slice_get_within rows first.at first.row first.found)))

  -- ---- the steps

  one_failing : (places : List ℕ) (p s t : ℕ) → IsLastFailing rows places p s → IsLastFailing rows places p t → s ≡ t
  one_failing places p s t one two = elim (cases_order s t) [
    | inl same ↦ same
    | inr (inl less) ↦ absurd (two.failing (one.behind t two.member less))
    | inr (inr more) ↦ absurd (one.failing (two.behind s one.member more))
  ]

  one_up : (old xs ys : List ℕ) → IsUpStep rows old xs → IsUpStep rows old ys → xs ≡ ys
  one_up old xs ys one two = one.result ∙ ap (λ s. set_without s old) (one_failing old (insert_place rows old) one.place two.place one.last two.last) ∙ sym two.result

  up_fails : (old new : List ℕ) → IsUpStep rows old new → PassesUpCheck rows old → ⊥
  up_fails old new step up = step.last.failing (up step.place step.last.member)

  one_bit : (old : List ℕ) (joined met : Block) (i j : ℕ) → i < 32 → j < 32 → IsBestBit rows old joined met i → IsBestBit rows old joined met j → i ≡ j
  one_bit old joined met i j low_i low_j one two = grind (arith, cases_order i j)

  one_down : (old xs ys : List ℕ) → IsDownStep rows old xs → IsDownStep rows old ys → xs ≡ ys
  one_down old xs ys one two = grind (arith, one_met (merged_block rows old) (insert_place rows old) one.met two.met one.first two.first, one_bit)

  -- ---- the refined set

  few_end : (places ys : List ℕ) → length places < 2 → Refines rows places ys → [] ≡ ys
  few_end places ys few its_3 = grind arith

  pub one_refined : (places xs ys : List ℕ) → Refines rows places xs → Refines rows places ys → xs ≡ ys
  one_refined places xs ys (ends_empty p few) other = few_end p ys few other
  one_refined places xs ys (ends_legal p two up down) (ends_empty q few) = absurd (omega arith)
  one_refined places xs ys (ends_legal p two up down) (ends_legal q also too low) = refl
  one_refined places xs ys (ends_legal p two up down) (goes_up q next a also step rest) = absurd (up_fails p next step up)
  one_refined places xs ys (ends_legal p two up down) (goes_down q next a also step rest) = search (rules, met_fails)
  one_refined places xs ys (goes_up p next a two step rest) (ends_empty q few) = absurd (omega arith)
  one_refined places xs ys (goes_up p next a two step rest) (ends_legal q also up down) = absurd (up_fails p next step up)
  one_refined places xs ys (goes_up p next a two step rest) (goes_up q other b also move more) = one_refined next a b rest (subst (λ l. Refines rows l b) (one_up p other next move step) more)
  one_refined places xs ys (goes_up p next a two step rest) (goes_down q other b also move more) = absurd (up_fails p next step move.up)
  one_refined places xs ys (goes_down p next a two step rest) (ends_empty q few) = absurd (omega arith)
  one_refined places xs ys (goes_down p next a two step rest) (ends_legal q also up down) = search (rules, met_fails)
  one_refined places xs ys (goes_down p next a two step rest) (goes_up q other b also move more) = absurd (up_fails p other move step.up)
  one_refined places xs ys (goes_down p next a two step rest) (goes_down q other b also move more) = one_refined next a b rest (subst (λ l. Refines rows l b) (one_down p other next move step) more)

  -- ---- the chosen merge

  -- a refined set of two places is that of a row's route
  route_of_set : (bits : ℕ) (set : List ℕ) → Refines rows (places_of bits 0 rows) set → 2 ≤ length set → (route : Route) × (route.bits ≡ bits)
  route_of_set bits set refined two = elim (route_cases bits rows) [
    | inl found ↦ ((get_or rows found.0 (merge_rows [])).route, found.2.1 (merge_rows []))
    | inr none ↦ grind (arith, few_end)
  ]

  largest_bound : (xs ys : List ℕ) (one : IsLargest rows xs) (two : IsLargest rows ys) → (length ys ≤ length xs) × (two.bits < one.bits → length ys < length xs)
  largest_bound xs ys one two =
      let route = route_of_set two.bits ys two.refined two.two in
      let rival : IsNoRival rows two.bits one.bits (length xs) = subst (λ b. IsNoRival rows b one.bits (length xs)) route.1 (one.others route.0) in
      let same : length rival.set ≡ length ys = ap length (one_refined (places_of two.bits 0 rows) rival.set ys rival.refined two.refined) in
      (omega (arith, same, rival.no_larger), λ less. omega (arith, same, rival.smaller (omega (arith, one.two)) less))

  one_largest : (xs ys : List ℕ) → IsLargest rows xs → IsLargest rows ys → xs ≡ ys
  one_largest xs ys one two = grind (arith, largest_bound xs ys one two, largest_bound ys xs two one, cases_order one.bits two.bits, one_refined)

  largest_or_none : (set : List ℕ) → IsLargest rows set → HasNoLargest rows → ⊥
  largest_or_none set largest none =
      let route = route_of_set largest.bits set largest.refined largest.two in
      let small = none route.0 in
      let same : length small.0 ≡ length set = ap length (one_refined (places_of largest.bits 0 rows) small.0 set (subst (λ b. Refines rows (places_of b 0 rows) small.0) route.1 small.1) largest.refined) in
      omega (arith, same, small.2, largest.two)

  one_pair : (xs ys : List ℕ) → IsFirstLegalPair rows xs → IsFirstLegalPair rows ys → xs ≡ ys
  one_pair xs ys one two = elim (cases_order one.i two.i) [
    | inl same ↦ elim (cases_order one.j two.j) [
      | inl also ↦ one.pair ∙ ap (λ n. n ∷ one.j ∷ []) same ∙ ap (λ n. two.i ∷ n ∷ []) also ∙ sym two.pair
      | inr (inl less) ↦ absurd (two.before one.i one.j (inr (same, less)) one.legal)
      | inr (inr more) ↦ absurd (one.before two.i two.j (inr (sym same, more)) two.legal)
    ]
    | inr (inl less) ↦ absurd (two.before one.i one.j (inl less) one.legal)
    | inr (inr more) ↦ absurd (one.before two.i two.j (inl more) two.legal)
  ]

  pub one_chosen : (xs ys : List ℕ) → IsChosen rows xs → IsChosen rows ys → xs ≡ ys
  one_chosen xs ys its_2 its_3 = grind (arith, one_largest, largest_or_none, one_pair)

  pub chosen_or_none : (set : List ℕ) → IsChosen rows set → HasNoChosen rows → ⊥
  chosen_or_none set (inl largest) none = largest_or_none set largest none.0
  chosen_or_none set (inr pair) none = none.1 pair.1.i pair.1.j pair.1.legal

-- ---- the covered table

module _ (target : ℕ) where
  pub one_covering : (rows : List Row) (xs ys : List (List ℕ)) (a b : List Row) → Covers target rows xs a → Covers target rows ys b → (xs ≡ ys) × (a ≡ b)
  one_covering rows xs ys a b (short r low) (short q also) = (refl, refl)
  one_covering rows xs ys a b (short r low) (stuck q high none) = (refl, refl)
  one_covering rows xs ys a b (short r low) (merged q other sets covered high chosen rest) = absurd (omega arith)
  one_covering rows xs ys a b (stuck r high none) (short q low) = (refl, refl)
  one_covering rows xs ys a b (stuck r high none) (stuck q more also) = (refl, refl)
  one_covering rows xs ys a b (stuck r high none) (merged q other sets covered more chosen rest) = absurd (chosen_or_none q other chosen none)
  one_covering rows xs ys a b (merged r set sets covered high chosen rest) (short q low) = absurd (omega arith)
  one_covering rows xs ys a b (merged r set sets covered high chosen rest) (stuck q more none) = absurd (chosen_or_none r set chosen none)
  one_covering rows xs ys a b (merged r set sets covered high chosen rest) (merged q other more last many also behind) =
      let same : other ≡ set = one_chosen r other set also chosen in
      let later = one_covering (after r set) sets more covered last rest (subst (λ s. Covers target (after r s) more last) same behind) in
      (ap (λ l. set ∷ l) later.0 ∙ ap (λ s. s ∷ more) (sym same), later.1)

same_merges : (xs ys : List Merge) → sets_of xs ≡ sets_of ys → xs ≡ ys
same_merges [] [] same = refl
same_merges [] (y ∷ ys) same = absurd (omega (arith, ap length same))
same_merges (x ∷ xs) [] same = absurd (omega (arith, ap length same))
same_merges (x ∷ xs) (y ∷ ys) same = grind (arith, same_merges xs ys (cc))

pub one_covered : (target : ℕ) (table : List Row) (c e : Covered) → Covers target table (sets_of c.merges) c.table.rows → Covers target table (sets_of e.merges) e.table.rows → c ≡ e
one_covered target table c e one two =
    let same = one_covering target table (sets_of c.merges) (sets_of e.merges) c.table.rows e.table.rows one two in
    ap (λ (l : List Merge). let v : Covered = record { table = c.table; merges = l } in v) (same_merges c.merges e.merges same.0)
    ∙ ap (λ (l : List Row). let v : Covered = record { table = record { rows = l }; merges = e.merges } in v) same.1
