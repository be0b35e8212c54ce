-- A covered table is sound where the table was, and what holds of all blocks that it serves holds of all that the table served.
use Rattle.plan_check.proofs.Common.{Alias, All, All-cons, All-filter, All-flat_map, All-from_flat_map, All-from_map, All-has, All-head, All-left, All-map, All-nil, All-right, All-tail, All-weaker}
use Rattle.plan_check.proofs.Common.{Bool, Covers, IsChosen, IsLegal, IsSound, List, Original, Refines, Route, Row, [], after, ap, arith, cases_Bool, cases_lt, cond, drop, ends_empty, ends_legal}
use Rattle.plan_check.proofs.Common.{eqb-true, false, flat_map, get_or, get_or-drop, get_or-take, get_or_default, goes_down, goes_up, has_row, inl, inr, insert_place, keeps, kept, legal_from_checks}
use Rattle.plan_check.proofs.Common.{length, length-drop, length-take, merge_rows, merged, merged_row, not, not_from_false, picked, places_of, refl, rows_at, rows_at-from, rows_at-has, same_route}
use Rattle.plan_check.proofs.Common.{served, served_by, short, stuck, subst, suc, sym, take, true, zero, ℕ, ◌+◌, ◌-◌, ◌<◌, ◌==◌, ◌∙◌, ◌∷◌, ◌≡◌, ◌≤◌}

-- what holds of the picked items holds at each place that passes
module _ {X : Type 0} (P : X → Type 0) where
  rest_of_cond : (b : Bool) (x : X) (ys : List X) → All P (cond b (x ∷ ys) ys) → All P ys
  rest_of_cond true x ys all = All-tail P x ys all
  rest_of_cond false x ys all = all

  head_of_cond : (b : Bool) (x : X) (ys : List X) → b ≡ true → All P (cond b (x ∷ ys) ys) → P x
  head_of_cond b x ys pass all = All-head P x ys (subst (λ c. All P (cond c (x ∷ ys) ys)) pass all)

  picked-at : (q : ℕ → Bool) (i : ℕ) (xs : List X) → All P (picked q i xs) → (k j : ℕ) (d : X) → j ≡ i + k → k < length xs → q j ≡ true → P (get_or xs k d)
  picked-at q i [] all k j d place in_range pass = absurd (omega arith)
  picked-at q i (x ∷ xs) all zero j d place in_range pass = grind (arith, head_of_cond (q i) x (picked q (suc i) xs) (ap q (omega arith) ∙ pass) all)
  picked-at q i (x ∷ xs) all (suc k) j d place in_range pass =
      picked-at q (suc i) xs (rest_of_cond (q i) x (picked q (suc i) xs) all) k j d (omega arith) (omega arith) pass

-- an alias with a route
abbrev marked : Route → Alias → Original
marked route a = record { block = a.block; port = a.port; route = route }

-- the rows of the places have a route of these bits, and are rows of the table
abbrev HasBits : List Row → ℕ → ℕ → Type 0
HasBits rows bits s = (s < length rows) × ((d : Row) → (get_or rows s d).route.bits ≡ bits)

module _ (P : Original → Type 0) where
  -- what a row serves
  abbrev Serving : Row → Type 0
  Serving r = All P (served_by r)

  -- what holds of all that a merge serves holds of what its members serve
  members : (xs : List Row) (bits : ℕ) → All (λ (x : Row). x.route.bits ≡ bits) xs → Serving (merge_rows xs) → All Serving xs
  members [] bits alike all = All-nil Serving
  members (r ∷ rest) bits alike all =
      let aliases : All (λ (a : Alias). P (marked r.route a)) (flat_map (λ (x : Row). x.aliases) (r ∷ rest)) =
      All-from_map P (marked r.route) (flat_map (λ (x : Row). x.aliases) (r ∷ rest)) all in
      let each : All (λ (x : Row). All (λ (a : Alias). P (marked r.route a)) x.aliases) (r ∷ rest) =
      All-from_flat_map (λ (a : Alias). P (marked r.route a)) (λ (x : Row). x.aliases) (r ∷ rest) aliases in
      λ k d below.
      let x : Row = get_or (r ∷ rest) k d in
      let same : r.route ≡ x.route = same_route r.route x.route (All-head (λ (y : Row). y.route.bits ≡ bits) r rest alike ∙ sym (alike k d below)) in
      All-map P (marked x.route) x.aliases (subst (λ (ρ : Route). All (λ (a : Alias). P (marked ρ a)) x.aliases) same (each k d below))

  module _ (rows : List Row) (places : List ℕ) (bits : ℕ) (good : All (HasBits rows bits) places) where
    in_range : All (λ s. s < length rows) places
    in_range = All-weaker (HasBits rows bits) (λ s. s < length rows) (λ s h. h.0) places good

    alike : All (λ (x : Row). x.route.bits ≡ bits) (rows_at rows places)
    alike = rows_at-from (λ (x : Row). x.route.bits ≡ bits) rows places (λ s d found. (All-has (HasBits rows bits) places s good found).1 d)

    -- and what holds of all that the table serves after the merge holds of what it served before
    served_before : All P (served (after rows places)) → All P (served rows)
    served_before all =
        let n = insert_place rows places in
        let out = λ (k : ℕ). not (has_row places k) in
        let each : All Serving (after rows places) = All-from_flat_map P served_by (after rows places) all in
        let front : All Serving (kept places 0 (take n rows)) = All-left Serving (kept places 0 (take n rows)) (merged_row rows places ∷ kept places n (drop n rows)) each in
        let behind : All Serving (merged_row rows places ∷ kept places n (drop n rows)) = All-right Serving (kept places 0 (take n rows)) (merged_row rows places ∷ kept places n (drop n rows)) each in
        let back : All Serving (kept places n (drop n rows)) = All-tail Serving (merged_row rows places) (kept places n (drop n rows)) behind in
        let mine : All Serving (rows_at rows places) = members (rows_at rows places) bits alike (All-head Serving (merged_row rows places) (kept places n (drop n rows)) behind) in
        All-flat_map P served_by rows (λ k d below. elim (cases_Bool (has_row places k)) [
          | inl found ↦ rows_at-has Serving rows places in_range mine k d found
          | inr none ↦ elim (cases_lt k n) [
            | inl before ↦
                let within : k < length (take n rows) = omega (arith, length-take n rows, before, below) in
                subst Serving (get_or-take n rows k d before)
                (picked-at Serving out 0 (take n rows) front k k d (omega arith) within (not_from_false (has_row places k) none))
            | inr later ↦
                let at : n + (k - n) ≡ k = omega (arith, later) in
                let within : k - n < length (drop n rows) = omega (arith, length-drop n rows, later, below) in
                subst (λ i. Serving (get_or rows i d)) at
                (subst Serving (get_or-drop n rows (k - n) d)
                (picked-at Serving out n (drop n rows) back (k - n) k d (omega (arith, later)) within (not_from_false (has_row places k) none)))
          ]
        ])

-- ---- the chosen merge

-- all places of a route have its bits
places_good : (all : List Row) (bits i : ℕ) (rows : List Row) → ((k : ℕ) (d : Row) → k < length rows → (i + k < length all) × (get_or all (i + k) d ≡ get_or rows k d)) → All (HasBits all bits) (places_of bits i rows)
places_good all bits i [] are = All-nil (HasBits all bits)
places_good all bits i (r ∷ rows) are =
    by (r.route.bits == bits) refl (places_good all bits (suc i) rows (λ k d below.
    let at : i + suc k ≡ suc i + k = omega arith in
    subst (λ n. (n < length all) × (get_or all n d ≡ get_or rows k d)) at (are (suc k) d (omega (arith, below)))))
  where
    first : r.route.bits ≡ bits → HasBits all bits i
    first same =
        let none : i + 0 ≡ i = omega arith in
        (subst (λ n. n < length all) none (are 0 r (omega arith)).0, λ d. ap (λ n. (get_or all n d).route.bits) (sym none) ∙ (ap (λ (x : Row). x.route.bits) (are 0 d (omega arith)).1 ∙ same))

    by : (b : Bool) → (r.route.bits == bits) ≡ b → All (HasBits all bits) (places_of bits (suc i) rows) → All (HasBits all bits) (cond b (i ∷ places_of bits (suc i) rows) (places_of bits (suc i) rows))
    by true hit rest = All-cons (HasBits all bits) i (places_of bits (suc i) rows) (first (eqb-true r.route.bits bits hit)) rest
    by false miss rest = rest

module _ (rows : List Row) (sound : IsSound rows) (bits : ℕ) where
  -- what a refinement of places of one route ends in is of that route, and legal
  refined_legal : (places answer : List ℕ) → Refines rows places answer → All (HasBits rows bits) places → 2 ≤ length answer → All (HasBits rows bits) answer × IsLegal rows answer
  refined_legal places answer (ends_empty p few) good two = absurd (omega (arith, two))
  refined_legal places answer (ends_legal p many up down) good two =
      (good, legal_from_checks rows p sound (All-weaker (HasBits rows bits) (λ s. s < length rows) (λ s h. h.0) p good) up down)
  refined_legal places answer (goes_up p next a many step rest) good two =
      refined_legal next a rest (subst (All (HasBits rows bits)) (sym step.result) (All-filter (λ t. not (t == step.place)) (HasBits rows bits) p good)) two
  refined_legal places answer (goes_down p next a many step rest) good two =
      refined_legal next a rest (elim step.narrowed [
        | inl by ↦ subst (All (HasBits rows bits)) (sym by.3) (All-filter (keeps rows step.met by.0) (HasBits rows bits) p good)
        | inr none ↦ subst (All (HasBits rows bits)) (sym none.1) (All-nil (HasBits rows bits))
      ]) two

chosen_legal : (rows : List Row) (set : List ℕ) → IsSound rows → IsChosen rows set → (bits : ℕ) × All (HasBits rows bits) set × IsLegal rows set
chosen_legal rows set sound (inl largest) =
    let legal = refined_legal rows sound largest.bits (places_of largest.bits 0 rows) set largest.refined
    (places_good rows largest.bits 0 rows (λ k d below. let same : 0 + k ≡ k = omega arith in (omega (arith, below), ap (λ n. get_or rows n d) same))) largest.two in
    (largest.bits, legal.0, legal.1)
chosen_legal rows set sound (inr (none, first)) =
    let pair = first.legal.set.set in
    let d : Row = merge_rows [] in
    let bits : ℕ = (get_or rows first.i d).route.bits in
    let one : HasBits rows bits first.i = (pair.in_range 0 0 (omega arith), λ e. ap (λ (x : Row). x.route.bits) (get_or_default rows first.i e d (pair.in_range 0 0 (omega arith)))) in
    let two : HasBits rows bits first.j = (pair.in_range 1 0 (omega arith), λ e. sym (ap (λ (ρ : Route). ρ.bits) (pair.one_route 0 1 0 (omega arith) (omega arith) e)) ∙ one.1 e) in (
      bits,
      subst (All (HasBits rows bits)) (sym first.pair) (All-cons (HasBits rows bits) first.i (first.j ∷ []) one (All-cons (HasBits rows bits) first.j [] two (All-nil (HasBits rows bits)))),
      subst (IsLegal rows) (sym first.pair) first.legal.legal,
    )

-- ---- all merges

pub covered_sound : (target : ℕ) (rows : List Row) (sets : List (List ℕ)) (covered : List Row) → Covers target rows sets covered → IsSound rows →
    IsSound covered × ((P : Original → Type 0) → All P (served covered) → All P (served rows))
covered_sound target rows sets covered (short r few) sound = (sound, λ P all. all)
covered_sound target rows sets covered (stuck r more none) sound = (sound, λ P all. all)
covered_sound target rows sets covered (merged r set rest c more chosen covers) sound =
    let legal = chosen_legal r set sound chosen in
    let later = covered_sound target (after r set) rest c covers legal.2 in
    (later.0, λ P all. served_before P r set legal.0 legal.1 (later.1 P all))
