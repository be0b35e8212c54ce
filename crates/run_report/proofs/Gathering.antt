-- What is gathered from the items of a list, one item more.
use Rattle.run_report.proofs.Common.{CoreQueue, Did, List, McCopy, Place, Some, Spot, State, [], ap, append_assoc, ap₂, arith, copies_at, core_waits, event_line, flat_map, flat_map_more, gathered}
use Rattle.run_report.proofs.Common.{gathered_more, get_or, length, map, map-id, map_push, min, range_with_len, slice_get, slice_get-get_or, slice_index_or, subst, sum_by}
use Rattle.run_report.proofs.Common.{sum_by-map-range_with_len_more, sym, take, take_all, take_more, waits_at, ℕ, ◌++◌, ◌+◌, ◌-◌, ◌<◌, ◌^◌, ◌∙◌, ◌∷◌, ◌≡◌, ◌≤◌}

-- a sum over the numbers from 0 on, and the next
pub sum_more : (g : ℕ → ℕ) (n : ℕ) → sum_by g (range_with_len 0 (n + 1)) ≡ sum_by g (range_with_len 0 n) + g n
sum_more g n = grind (arith, sum_by g, map-id (range_with_len 0 (n + 1)), map-id (range_with_len 0 n), sum_by-map-range_with_len_more)

-- a sum that stands still at its greatest value
pub capped_more : (total more so_far next all : ℕ) → so_far ≡ min total (2 ^ 32 - 1) → next ≡ min (so_far + more) (2 ^ 32 - 1) → all ≡ total + more → next ≡ min all (2 ^ 32 - 1)
capped_more total more so_far next all a b c = grind (arith, a, b, c)

-- what waits at the vertices so far, and at the next
pub cores_more : (s : State) (spots : List Spot) (v : ℕ) (d : Spot) (before sofar new : List (ℕ × Place)) (copies : List McCopy) → spots ≡ s.setup.spots → v < length spots →
    slice_get s.cores v ≡ Some copies → sofar ≡ before ++ gathered (core_waits s) 0 (take v s.setup.spots) →
    new ≡ sofar ++ waits_at (CoreQueue (slice_index_or spots v d).chip (slice_index_or spots v d).core) copies →
    new ≡ before ++ gathered (core_waits s) 0 (take (v + 1) s.setup.spots)
cores_more s spots v d before sofar new copies is below queue so_far more =
    let spot : Spot = slice_index_or spots v d in
    let here : slice_get s.setup.spots v ≡ Some spot = subst (λ l. slice_get l v ≡ Some spot) is (slice_get-get_or spots v d below) in
    let waits : waits_at (CoreQueue spot.chip spot.core) copies ≡ core_waits s v spot = ap (λ o. waits_at (CoreQueue spot.chip spot.core) (copies_at o)) (sym queue) in
    more ∙ ap₂ (λ l m. l ++ m) so_far waits
    ∙ append_assoc before (gathered (core_waits s) 0 (take v s.setup.spots)) (core_waits s v spot)
    ∙ ap (λ l. before ++ l) (sym (gathered_more (core_waits s) 0 s.setup.spots v v spot here (omega arith)))

-- the lines of the events so far, and of the next
pub events_more : (all : List Did) (i : ℕ) (d : Did) (before sofar new : List ℕ) → i < length all → sofar ≡ before ++ gathered event_line 1 (take i all) →
    new ≡ sofar ++ event_line (i + 1) (slice_index_or all i d) → new ≡ before ++ gathered event_line 1 (take (i + 1) all)
events_more all i d before sofar new below so_far more =
    let did : Did = slice_index_or all i d in
    more ∙ ap (λ l. l ++ event_line (i + 1) did) so_far
    ∙ append_assoc before (gathered event_line 1 (take i all)) (event_line (i + 1) did)
    ∙ ap (λ l. before ++ l) (sym (gathered_more event_line 1 all i (i + 1) did (slice_get-get_or all i d below) (omega arith)))

-- what a function puts for each item of a list, so far and for the next, and when no item is left
module _ {X A : Type 0} (f : X → List A) (xs : List X) (before sofar : List A) (i : ℕ) (put : sofar ≡ before ++ flat_map f (take i xs)) where
  pub put_at : (d : X) (new : List A) → i < length xs → new ≡ sofar ++ f (get_or xs i d) → new ≡ before ++ flat_map f (take (i + 1) xs)
  put_at d new below more = grind (arith, get_or xs i d, flat_map_more f before (take i xs) (get_or xs i d), take_more xs i d below)

  pub put_more : (x : X) (new : List A) → i < length xs → x ≡ get_or xs i x → new ≡ sofar ++ f x → new ≡ before ++ flat_map f (take (i + 1) xs)
  put_more x new below is more = put_at x new below (more ∙ ap (λ y. sofar ++ f y) is)

  pub put_all : length xs ≤ i → sofar ≡ before ++ flat_map f xs
  put_all end = put ∙ ap (λ l. before ++ flat_map f l) (take_all i xs end)

-- the same for a function that puts one item for each
module _ {X A : Type 0} (h : X → A) (xs : List X) (before sofar : List A) (i : ℕ) (put : sofar ≡ before ++ map h (take i xs)) where
  pub pushed_at : (d : X) (new : List A) → i < length xs → new ≡ sofar ++ h (get_or xs i d) ∷ [] → new ≡ before ++ map h (take (i + 1) xs)
  pushed_at d new below more = grind (arith, get_or xs i d, append_assoc before (map h (take i xs)) (h (get_or xs i d) ∷ []), map_push h (take i xs) (get_or xs i d), take_more xs i d below)

  pub pushed_all : length xs ≤ i → sofar ≡ before ++ map h xs
  pushed_all end = put ∙ ap (λ l. before ++ map h l) (take_all i xs end)
