-- Numbers of routes, and the rows of one route one after another.
use Rattle.cover_merge.proofs.Common.{All-map, AreLinks, AreNumbers, AreRoutes, IsAhead, IsEachOnce, IsFirstOfRoute, IsMergeSet, IsNextOfRoute, IsOrdered, IsRouteAdded, List, Route, Row, [], after}
use Rattle.cover_merge.proofs.Common.{ap, arith, cases_lt, eqb-true, get_or, get_or-append_seam, get_or-map, get_or_append_left, get_or_default, insert, insert_place, length, length-append}
use Rattle.cover_merge.proofs.Common.{length-map, map, merge_rows, merged_row, nat_tests, passes_at_first, position_or_len_push, rules, subst, sym, ℕ, ◌++◌, ◌+◌, ◌<◌, ◌==◌, ◌∙◌, ◌∷◌, ◌≡◌}
use Rattle.cover_merge.proofs.{KeptLemmasMoved.length_carried, KeptLemmasMoved.all_carried, ApplyLemmas.left, ApplyLemmas.route_is}
use Rattle.cover_merge.specs.Links.{place_of_route}

-- ---- the place of a route

-- that route stands there
pub route_there : (routes : List ℕ) (bits : ℕ) → place_of_route routes bits < length routes → get_or routes (place_of_route routes bits) 0 ≡ bits
unfolding place_of_route
route_there routes bits inside = eqb-true _ _ (passes_at_first (λ r. r == bits) routes 0 inside)

-- ---- one route more

-- a route that stands among them stays where it is
route_stays : (routes : List ℕ) (new bits : ℕ) → place_of_route routes bits < length routes → place_of_route (routes ++ new ∷ []) bits ≡ place_of_route routes bits
unfolding place_of_route
route_stays routes new bits inside = grind (arith, nat_tests, position_or_len_push (λ r. r == bits) routes new)

-- and one that does not comes behind them
route_last : (routes : List ℕ) (bits : ℕ) → place_of_route routes bits ≡ length routes → place_of_route (routes ++ bits ∷ []) bits ≡ length routes
unfolding place_of_route
route_last routes bits none = grind (arith, nat_tests, position_or_len_push (λ r. r == bits) routes bits)

pub added_last : (bits n : ℕ) (old new : List ℕ) → n ≡ place_of_route old bits → n ≡ length old → new ≡ old ++ bits ∷ [] → IsRouteAdded bits old new
added_last bits n old new is none now =
    grind (arith, length-append old (bits ∷ []), route_last old bits (sym is ∙ none), get_or-append_seam old bits, route_stays, cases_lt, get_or, get_or_append_left)

-- ---- numbers

pub numbers_made : (routes : List ℕ) (rows : List Row) (numbers : List ℕ) → numbers ≡ map (λ (r : Row). place_of_route routes r.route.bits) rows → AreRoutes rows routes
    → AreNumbers routes rows numbers
numbers_made routes rows numbers is are = subst (AreNumbers routes rows) (sym is) (record {
  one_each = length-map rows (λ (r : Row). place_of_route routes r.route.bits);
  each = λ k d inside. get_or-map (λ (r : Row). place_of_route routes r.route.bits) rows k d 0 inside;
  below = All-map (λ c. c < length routes) (λ (r : Row). place_of_route routes r.route.bits) rows are.found;
})

-- two rows have one number exactly where they have one route
module _ (routes : List ℕ) (rows : List Row) (numbers : List ℕ) (are : AreNumbers routes rows numbers) where
  -- the route of a row stands at its number
  pub route_of : (k : ℕ) (d : Row) → k < length rows → get_or routes (get_or numbers k 0) 0 ≡ (get_or rows k d).route.bits
  route_of k d inside =
      let at = are.each k d inside in
      ap (λ n. get_or routes n 0) at ∙ route_there routes (get_or rows k d).route.bits (omega (arith, at, are.below k 0 (omega (arith, are.one_each, inside))))

  -- and its number is the place of that
  pub number_of_route : IsEachOnce routes → (k c : ℕ) (d : Row) → k < length rows → c < length routes → (get_or rows k d).route.bits ≡ get_or routes c 0 → get_or numbers k 0 ≡ c
  number_of_route once k c d inside low same = are.each k d inside ∙ ap (place_of_route routes) same ∙ once c low

  -- a route that is none of them is that of no row
  pub routes_all : (bits k : ℕ) (d : Row) → k < length rows → (get_or rows k d).route.bits ≡ bits → place_of_route routes bits < length routes
  routes_all bits k d inside same = let at = are.each k d inside ∙ ap (place_of_route routes) same in omega (arith, at, are.below k 0 (omega (arith, are.one_each, inside)))

  pub same_route : (j k : ℕ) (d : Row) → j < length rows → k < length rows → get_or numbers j 0 ≡ get_or numbers k 0 → (get_or rows j d).route.bits ≡ (get_or rows k d).route.bits
  same_route j k d in_j in_k same = sym (route_of j d in_j) ∙ ap (λ n. get_or routes n 0) same ∙ route_of k d in_k

  pub same_number : (j k : ℕ) (d : Row) → j < length rows → k < length rows → (get_or rows j d).route.bits ≡ (get_or rows k d).route.bits → get_or numbers j 0 ≡ get_or numbers k 0
  same_number j k d in_j in_k same = are.each j d in_j ∙ ap (place_of_route routes) same ∙ sym (are.each k d in_k)

  pub next_from : (k x : ℕ) → k < length rows → IsAhead numbers (k + 1) (get_or numbers k 0) x → IsNextOfRoute rows k x
  next_from k x inside ahead = grind (arith, are.one_each, same_route, same_number)

  pub first_from : IsEachOnce routes → (c x : ℕ) → c < length routes → IsAhead numbers 0 c x → IsFirstOfRoute rows (get_or routes c 0) x
  first_from once c x low ahead = grind (arith, are.one_each, route_of, get_or, number_of_route)

pub links_made : (routes : List ℕ) (rows : List Row) (numbers : List ℕ) → IsEachOnce routes → AreNumbers routes rows numbers → (nexts heads : List ℕ)
    → length nexts ≡ length numbers → length heads ≡ length routes
    → ((c : ℕ) → c < length routes → IsAhead numbers 0 c (get_or heads c 0))
    → ((k : ℕ) → k < length numbers → IsAhead numbers (k + 1) (get_or numbers k 0) (get_or nexts k 0))
    → AreLinks routes rows nexts heads
links_made routes rows numbers once are nexts heads one_next one_head first next =
    let many = are.one_each in record {
      next = search (rules, next_from, get_or);
      one_each = one_head;
      head = λ c low. first_from routes rows numbers are once c (get_or heads c 0) low (first c low);
    }

-- ---- the numbers after a merge

module _ (routes : List ℕ) (rows : List Row) (numbers : List ℕ) (are : AreNumbers routes rows numbers) (places : List ℕ) (ordered : IsOrdered rows) (merge : IsMergeSet rows places) (p number : ℕ) (place : p ≡ insert_place rows places) (read : number ≡ get_or numbers (get_or places 0 0) number) where
  member_inside : get_or places 0 0 < length rows
  member_inside = merge.set.in_range 0 0 (omega (arith, merge.two))

  first : number ≡ get_or numbers (get_or places 0 0) 0
  first = read ∙ get_or_default numbers (get_or places 0 0) number 0 (omega (arith, are.one_each, member_inside))

  number_is : number ≡ place_of_route routes (merged_row rows places).route.bits
  number_is = first ∙ are.each (get_or places 0 0) (merge_rows []) member_inside
      ∙ ap (λ (r : Route). place_of_route routes r.bits) (sym (route_is rows places (merge_rows []) merge.set.in_range (omega (arith, merge.two))))

  pub numbers_after : AreNumbers routes (after rows places) (left places 0 (insert numbers p number))
  numbers_after =
      let m = merged_row rows places in
      let low : number < length routes = subst (λ c. c < length routes) (sym first) (are.below (get_or places 0 0) 0 (omega (arith, are.one_each, member_inside))) in
      let long = length_carried rows places ordered merge.set.in_range numbers number are.one_each in
      subst (λ i. AreNumbers routes (after rows places) (left places 0 (insert numbers i number))) (sym place) (record {
        one_each = long;
        each = λ l d within. all_carried rows places ordered merge.set.in_range numbers number are.one_each (λ c r. c ≡ place_of_route routes r.route.bits) 0 d
            (λ k inside. are.each k d (omega (arith, inside, are.one_each))) number_is l (omega (arith, within, long));
        below = λ l d within. all_carried rows places ordered merge.set.in_range numbers number are.one_each (λ c r. c < length routes) d m (λ k inside. are.below k d inside) low l within;
      })
