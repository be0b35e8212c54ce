-- Blocks that are joined have all keys of the blocks taken in, and none of the pieces behind.
use Rattle.table_rules.proofs.Common.{All, All-head, All-tail, Among, Block, Contains-filter, Contains-map, GoesBy, Intersects, LiesIn, LiesIn-merge, List, Matches, None, Route, RoutedBlock, []}
use Rattle.table_rules.proofs.Common.{among_any, among_contains, among_filter, any_among, ap, arith, cases_Bool, contains_among, eq-eqb, eqb-true, eqb_tells, false, false≢true, first_with, fold}
use Rattle.table_rules.proofs.Common.{goes_by, inl, inr, joined_blocks, map, meets_one, meets_tells, merge_two, others, own_blocks, refl, row_blocks, row_by, rows_by_routes, rules, same_route, subst}
use Rattle.table_rules.proofs.Common.{sym, with_block, ℕ, ◌++◌, ◌<◌, ◌^◌, ◌∙◌, ◌∷◌, ◌≡◌, ◌⊎◌}
use Rattle.table_rules.proofs.FirstRows.{first_hit, first_miss, has_tells}

-- one of the blocks has the key
abbrev SomeHas : List Block → ℕ → Type 0
SomeHas [] k = ⊥
SomeHas (b ∷ bs) k = Matches b k ⊎ SomeHas bs k

some_has : (bs : List Block) (b : Block) (k : ℕ) → Among b bs → Matches b k → SomeHas bs k
some_has [] b k among hit = absurd among
some_has (c ∷ bs) b k (inl here) hit = inl (subst (λ x. Matches x k) here hit)
some_has (c ∷ bs) b k (inr later) hit = inr (some_has bs b k later hit)

-- ---- a join has the keys of both

module _ (a b : Block) (k : ℕ) (small : k < 2 ^ 32) where
  both_in : All (λ c. LiesIn c (merge_two a b)) (a ∷ b ∷ [])
  both_in = LiesIn-merge (a ∷ b ∷ [])

  first_in : Matches a k → Matches (merge_two a b) k
  first_in = All-head (λ c. LiesIn c (merge_two a b)) a (b ∷ []) both_in k small

  second_in : Matches b k → Matches (merge_two a b) k
  second_in = All-head (λ c. LiesIn c (merge_two a b)) b [] (All-tail (λ c. LiesIn c (merge_two a b)) a (b ∷ []) both_in) k small

-- ---- what joined blocks have

module _ (behind : List RoutedBlock) where
  module _ (block : Block) (k : ℕ) (small : k < 2 ^ 32) where
    still_had : (bs : List Block) → SomeHas bs k → SomeHas (with_block behind bs block) k
    still_had [] has = absurd has
    still_had (b ∷ bs) has = grind (arith, cases_Bool (meets_one behind (merge_two b block)), first_in b block k small, still_had bs)

    newly_had : (bs : List Block) → Matches block k → SomeHas (with_block behind bs block) k
    newly_had [] hit = inl hit
    newly_had (b ∷ bs) hit = grind (arith, cases_Bool (meets_one behind (merge_two b block)), second_in b block k small hit, newly_had bs hit)

  module _ (k : ℕ) (small : k < 2 ^ 32) where
    had_from : (blocks bs : List Block) → SomeHas bs k → SomeHas (fold (with_block behind) bs blocks) k
    had_from [] bs has = has
    had_from (c ∷ blocks) bs has = had_from blocks (with_block behind bs c) (still_had c k small bs has)

    all_had : (blocks bs : List Block) → SomeHas blocks k → SomeHas (fold (with_block behind) bs blocks) k
    all_had [] bs has = absurd has
    all_had (c ∷ blocks) bs (inl here) = had_from blocks (with_block behind bs c) (newly_had c k small bs here)
    all_had (c ∷ blocks) bs (inr later) = all_had blocks (with_block behind bs c) later

  -- ---- and what they meet

  abbrev AllClear : List Block → Type 0
  AllClear [] = Unit {0}
  AllClear (b ∷ bs) = (meets_one behind b ≡ false) × AllClear bs

  module _ (block : Block) (clear : meets_one behind block ≡ false) where
    clear_with : (bs : List Block) → AllClear bs → AllClear (with_block behind bs block)
    clear_with [] all = (clear, tt)
    clear_with (b ∷ bs) all = grind (arith, cases_Bool (meets_one behind (merge_two b block)), clear_with bs all.1, all.0, all.1)

  clear_from : (blocks bs : List Block) → AllClear bs → AllClear blocks → AllClear (fold (with_block behind) bs blocks)
  clear_from [] bs all these = all
  clear_from (c ∷ blocks) bs all these = clear_from blocks (with_block behind bs c) (clear_with c these.0 bs all) these.1

  module _ (p : RoutedBlock) (among : Among p behind) (k : ℕ) (small : k < 2 ^ 32) (hit : Matches p.block k) where
    unclear : (b : Block) → Matches b k → meets_one behind b ≡ false → ⊥
    unclear b has clear = grind (arith, meets_tells b p.block, false≢true, among_any)

    none_has : (bs : List Block) → AllClear bs → SomeHas bs k → ⊥
    none_has [] all has = has
    none_has (b ∷ bs) all (inl here) = unclear b here all.0
    none_has (b ∷ bs) all (inr later) = none_has bs all.1 later

-- ---- rows of blocks

module _ (route : Route) (k : ℕ) (rest : List RoutedBlock) where
  first_of_route : (bs : List Block) → SomeHas bs k → GoesBy (map (row_by route) bs ++ rest) k route
  first_of_route [] has = absurd has
  first_of_route (b ∷ bs) has = elim (has_tells k (row_by route b)) [
    | inl hit ↦ record { row = row_by route b; first = first_hit (row_by route b) (map (row_by route) bs ++ rest) k hit.1; by = refl }
    | inr miss ↦ elim has [
      | inl here ↦ absurd (miss.1 here)
      | inr later ↦
          let way = first_of_route bs later in
          record { row = way.row; first = first_miss (row_by route b) (map (row_by route) bs ++ rest) k miss.1 ∙ way.first; by = way.by }
    ]
  ]

  first_behind : (bs : List Block) → (SomeHas bs k → ⊥) → first_with (map (row_by route) bs ++ rest) k ≡ first_with rest k
  first_behind [] none = refl
  first_behind (b ∷ bs) none = first_miss (row_by route b) (map (row_by route) bs ++ rest) k (λ hit. none (inl hit)) ∙ first_behind bs (λ has. none (inr has))

-- ---- rows of routes

-- pieces of two routes do not meet
abbrev pub AreApart : List RoutedBlock → Type 0
AreApart pieces = (p q : RoutedBlock) → Among p pieces → Among q pieces → (p.route.bits ≡ q.route.bits → ⊥) → Intersects p.block q.block → ⊥

module _ (route : Route) (pieces : List RoutedBlock) where
  pub of_others : (p : RoutedBlock) → Among p (others route pieces) → Among p pieces × (p.route.bits ≡ route.bits → ⊥)
  of_others p among = grind (arith, among_filter, false≢true, eq-eqb)

  pub to_others : (p : RoutedBlock) → Among p pieces → (p.route.bits ≡ route.bits → ⊥) → Among p (others route pieces)
  to_others p among other = grind (arith, eqb_tells p.route.bits route.bits, among_contains p pieces among, contains_among, Contains-filter)

  own_block : (p : RoutedBlock) → Among p pieces → p.route.bits ≡ route.bits → Among p.block (own_blocks route pieces)
  own_block p among same = contains_among _ _ (Contains-map (λ (r : RoutedBlock). r.block) _ _ (Contains-filter _ _ _ (among_contains _ _ among) (eq-eqb _ _ same)))

  others_apart : AreApart pieces → AreApart (others route pieces)
  others_apart apart p q of_p of_q = apart p q (of_others p of_p).0 (of_others q of_q).0

  module _ (apart : AreApart pieces) where
    clear_own : (p : RoutedBlock) → Among p pieces → p.route.bits ≡ route.bits → meets_one (others route pieces) p.block ≡ false
    clear_own p among same = grind (arith, cases_Bool (meets_one (others route pieces) p.block), any_among, of_others, meets_tells, false≢true)

    all_clear : (ps : List RoutedBlock) → ((p : RoutedBlock) → Among p ps → meets_one (others route pieces) p.block ≡ false) → AllClear (others route pieces) (row_blocks ps)
    all_clear [] each = tt
    all_clear (p ∷ ps) each = (each p (inl refl), all_clear ps (λ q among. each q (inr among)))

    own_clear : AllClear (others route pieces) (joined_blocks (others route pieces) (own_blocks route pieces))
    own_clear = clear_from _ _ [] _ (all_clear _ (λ p among. let parts = among_filter (goes_by route) p pieces among in clear_own p parts.0 (eqb-true p.route.bits route.bits parts.1)))

    own_has : (p : RoutedBlock) (k : ℕ) → k < 2 ^ 32 → Among p pieces → p.route.bits ≡ route.bits → Matches p.block k → SomeHas (joined_blocks (others route pieces) (own_blocks route pieces)) k
    own_has p k small among same hit = search (rules, all_had, some_has, own_block)

    others_miss : (p : RoutedBlock) (k : ℕ) → k < 2 ^ 32 → Among p pieces → (p.route.bits ≡ route.bits → ⊥) → Matches p.block k
        → SomeHas (joined_blocks (others route pieces) (own_blocks route pieces)) k → ⊥
    others_miss p k small among other hit = grind (arith, none_has, to_others, own_clear)

module _ (p : RoutedBlock) (k : ℕ) (small : k < 2 ^ 32) (hit : Matches p.block k) where
  -- a key of a piece goes by its route, if that is one of the routes
  pub piece_goes : (routes : List Route) (pieces : List RoutedBlock) → AreApart pieces → Among p pieces → Among p.route routes → GoesBy (rows_by_routes routes pieces) k p.route
  piece_goes [] pieces apart among routed = absurd routed
  piece_goes (route ∷ routes) pieces apart among routed = elim (eqb_tells p.route.bits route.bits) [
    | inl same ↦
        let way =
        first_of_route route k (rows_by_routes routes (others route pieces)) (joined_blocks (others route pieces) (own_blocks route pieces)) (own_has route pieces apart p k small among same.1 hit) in
        record { row = way.row; first = way.first; by = way.by ∙ sym (same_route p.route route same.1) }
    | inr other ↦ elim routed [
      | inl here ↦ absurd (other.1 (ap (λ (r : Route). r.bits) here))
      | inr later ↦
          let way = piece_goes routes (others route pieces) (others_apart route pieces apart) (to_others route pieces p among other.1) later in record {
            row = way.row;
            first = first_behind route k (rows_by_routes routes (others route pieces)) (joined_blocks (others route pieces) (own_blocks route pieces))
                (others_miss route pieces apart p k small among other.1 hit)
                ∙ way.first;
            by = way.by;
          }
    ]
  ]

  -- and if it is none of them, no row has the key
  pub piece_is_missed : (routes : List Route) (pieces : List RoutedBlock) → AreApart pieces → Among p pieces → ((r : Route) → Among r routes → p.route.bits ≡ r.bits → ⊥)
      → first_with (rows_by_routes routes pieces) k ≡ None
  piece_is_missed [] pieces apart among none = refl
  piece_is_missed (route ∷ routes) pieces apart among none =
      first_behind route k (rows_by_routes routes (others route pieces)) (joined_blocks (others route pieces) (own_blocks route pieces))
      (others_miss route pieces apart p k small among (none route (inl refl)) hit)
      ∙ piece_is_missed routes (others route pieces) (others_apart route pieces apart) (to_others route pieces p among (none route (inl refl))) (λ r later. none r (inr later))
