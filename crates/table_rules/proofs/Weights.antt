-- Routes by their weights are the routes of the pieces, by weight.
use Rattle.table_rules.proofs.Common.{All-each, AllPairs, AllPairs-from_map, Among, AreRoutesOf, Contains, Contains-map, Contains-unmap, List, Route, RoutedBlock, [], among_contains, among_map, ap}
use Rattle.table_rules.proofs.Common.{arith, contains_among, count_by, drop, get_or, goes_by, inl, inr, length, map, mod_low, refl, same_route, subst, sym, weight_of, ℕ, ◌%◌, ◌<◌, ◌^◌, ◌↔◌, ◌∙◌, ◌∷◌}
use Rattle.table_rules.proofs.Common.{◌≡◌}

module _ (pieces : List RoutedBlock) where
  abbrev weigh : RoutedBlock → ℕ
  weigh p = weight_of pieces p.route

  -- a weight tells the route's bits
  bits_told : (r : Route) → weight_of pieces r % 2 ^ 24 ≡ r.bits
  bits_told r = mod_low (count_by (goes_by r) pieces) 24 r.bits r.within

  -- each route that has the bits of a weight has that weight
  same_weights : (routes : List Route) (weights : List ℕ) → map (λ (r : Route). r.bits) routes ≡ map (λ w. w % 2 ^ 24) weights → ((w : ℕ) → Among w weights → (p : RoutedBlock) × Among p pieces × (w ≡ weigh p))
      → map (weight_of pieces) routes ≡ weights
  same_weights [] [] same from = refl
  same_weights [] (w ∷ weights) same from = absurd (omega (arith, ap length same))
  same_weights (r ∷ routes) [] same from = absurd (omega (arith, ap length same))
  same_weights (r ∷ routes) (w ∷ weights) same from =
      let it = from w (inl refl) in
      let bits : r.bits ≡ it.0.route.bits = ap (λ l. get_or l 0 0) same ∙ (ap (λ n. n % 2 ^ 24) it.2 ∙ bits_told it.0.route) in
      let here : weight_of pieces r ≡ w = ap (weight_of pieces) (same_route r it.0.route bits) ∙ sym it.2 in
      let rest : map (weight_of pieces) routes ≡ weights = same_weights routes weights (ap (drop 1) same) (λ v among. from v (inr among)) in
      ap (λ v. v ∷ map (weight_of pieces) routes) here ∙ ap (λ l. w ∷ l) rest

  module _ (routes : List Route) (old weights : List ℕ) (weighed : old ≡ map weigh pieces) (rising : AllPairs (λ a b. a < b) weights) (same : (w : ℕ) → Contains weights w ↔ Contains old w)
      (read : map (λ (r : Route). r.bits) routes ≡ map (λ w. w % 2 ^ 24) weights) where
    from_piece : (w : ℕ) → Among w weights → (p : RoutedBlock) × Among p pieces × (w ≡ weigh p)
    from_piece w among = among_map weigh w pieces (subst (Among w) weighed (contains_among w old ((same w).0 (among_contains w weights among))))

    all_weights : map (weight_of pieces) routes ≡ weights
    all_weights = same_weights routes weights read from_piece

    -- a route of a weight is the route of a piece that has it
    route_is : (r : Route) (p : RoutedBlock) → weight_of pieces r ≡ weigh p → r ≡ p.route
    route_is r p is = same_route r p.route (sym (bits_told r) ∙ (ap (λ n. n % 2 ^ 24) is ∙ bits_told p.route))

    pub are_routes : AreRoutesOf pieces routes
    are_routes = record {
      each = All-each (λ (p : RoutedBlock). Contains routes p.route) pieces (λ p among.
          let there : Contains weights (weigh p) = (same (weigh p)).1 (subst (λ l. Contains l (weigh p)) (sym weighed) (Contains-map weigh pieces p among)) in
          let r = Contains-unmap (weight_of pieces) routes (weigh p) (subst (λ l. Contains l (weigh p)) (sym all_weights) there) in
          subst (Contains routes) (route_is r.0 p r.2) r.1);
      only = All-each (λ (r : Route). Contains (map (λ (p : RoutedBlock). p.route) pieces) r) routes (λ r among.
          let there : Contains weights (weight_of pieces r) = subst (λ l. Contains l (weight_of pieces r)) all_weights (Contains-map (weight_of pieces) routes r among) in
          let it = from_piece (weight_of pieces r) (contains_among (weight_of pieces r) weights there) in
          subst (Contains (map (λ (p : RoutedBlock). p.route) pieces)) (sym (route_is r it.0 it.2)) (Contains-map (λ (p : RoutedBlock). p.route) pieces it.0 (among_contains it.0 pieces it.1)));
      rising = AllPairs-from_map (weight_of pieces) (λ a b. a < b) routes (subst (AllPairs (λ a b. a < b)) (sym all_weights) rising);
    }
