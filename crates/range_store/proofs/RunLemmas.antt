-- Holes as runs of free places, and what a range leaves of them.
use Rattle.range_store.proofs.Common.{AreRuns, Bool, FitsAt, HasNoFitFrom, Hole, IsFirstFitFrom, IsLeastIn, List, NoneIn, Some, [], ap, append_assoc, arith, cases_Bool, cases_eq, cases_lt, drop}
use Rattle.range_store.proofs.Common.{false, get_or, get_or_from_slice_get, has_range, hole_end, hole_of, holes_without, in_range, inl, inr, is_free, is_hole_range, leb, length, length-take-le}
use Rattle.range_store.proofs.Common.{length_push, list_any-append, ltb, max, min, mod-eq_of_lt, mod_self, mul-le-mul_left, mul-mod_right, nat_tests, next_multiple_of, not, or_cases, or_parts}
use Rattle.range_store.proofs.Common.{or_right, refl, rest_of, set, set_at, set_split, slice_get, slice_get_within, subst, suc, sym, take, take-append-drop, true, zero, ℕ, ◌%◌, ◌&&◌, ◌*◌, ◌++◌, ◌+◌}
use Rattle.range_store.proofs.Common.{◌-◌, ◌/◌, ◌<◌, ◌||◌, ◌∙◌, ◌∷◌, ◌≡◌, ◌≢◌, ◌≤◌}
use Rattle.range_store.proofs.HolePlaces.{clash, has_facts, has_from}

-- an earlier beginning may stand before the same holes
pub earlier : (from to n : ℕ) (hs : List Hole) → AreRuns from n hs → to ≤ from → AreRuns to n hs
earlier from to n [] runs le = tt
earlier from to n (h ∷ hs) runs le = (omega arith, runs.1, runs.2, runs.3)

-- where the next hole may begin
abbrev pub next : ℕ → List Hole → ℕ
next from [] = from
next from (h ∷ hs) = next (hole_end h + 1) hs

pub runs_split : (from n : ℕ) (pre post : List Hole) → AreRuns from n (pre ++ post) → AreRuns from n pre × AreRuns (next from pre) n post
runs_split from n [] post runs = (tt, runs)
runs_split from n (h ∷ hs) post runs = grind (arith, runs_split (hole_end h + 1) n hs post runs.3)

pub runs_join : (from n : ℕ) (pre post : List Hole) → AreRuns from n pre → AreRuns (next from pre) n post → AreRuns from n (pre ++ post)
runs_join from n [] post a b = b
runs_join from n (h ∷ hs) post a b = (a.0, a.1, a.2, runs_join (hole_end h + 1) n hs post a.3 b)

pub next_le : (from n : ℕ) (pre : List Hole) → AreRuns from n pre → from ≤ next from pre
next_le from n [] runs = omega arith
next_le from n (h ∷ hs) runs = let more = next_le (hole_end h + 1) n hs runs.3 in omega arith

pub hole_some : (a b : ℕ) → a < b → hole_of a b ≡ record { place = a; len = b - a } ∷ []
hole_some a b lt = let t : ltb a b ≡ true = grind (arith, nat_tests) in rw t refl

pub hole_none : (a b : ℕ) → b ≤ a → hole_of a b ≡ []
hole_none a b le = let t : ltb a b ≡ false = grind (arith, nat_tests) in rw t refl

hole_whole : (h : Hole) → 0 < h.len → hole_of h.place (hole_end h) ≡ h ∷ []
hole_whole h some = grind (arith, hole_some h.place (hole_end h) (omega arith))

-- a range leaves a hole that it does not meet as it was
leaves_before : (p s : ℕ) (h : Hole) → 0 < h.len → hole_end h ≤ p → rest_of p s h ≡ h ∷ []
leaves_before p s h some le = grind (arith, hole_whole h some, hole_none (max h.place (p + s)) (hole_end h) (omega arith))

leaves_after : (p s : ℕ) (h : Hole) → 0 < h.len → p + s ≤ h.place → rest_of p s h ≡ h ∷ []
leaves_after p s h some le = grind (arith, hole_none h.place (min (hole_end h) p) (omega arith), hole_whole h some)

without_after : (from n p s : ℕ) (hs : List Hole) → AreRuns from n hs → p + s ≤ from → holes_without p s hs ≡ hs
without_after from n p s [] runs le = refl
without_after from n p s (h ∷ hs) runs le = grind (arith, leaves_after p s h runs.1 (omega arith), without_after (hole_end h + 1) n p s hs runs.3 (omega arith))

-- what a range leaves of all holes is what it leaves of the hole in which it lies
pub without_at : (from n p s : ℕ) (pre : List Hole) (h : Hole) (post : List Hole) → AreRuns from n (pre ++ h ∷ post) → h.place ≤ p → p + s ≤ hole_end h
    → holes_without p s (pre ++ h ∷ post) ≡ pre ++ (rest_of p s h ++ post)
without_at from n p s [] h post runs low high = grind (arith, without_after (hole_end h + 1) n p s post runs.3 (omega arith))
without_at from n p s (x ∷ xs) h post runs low high =
    let far = (runs_split (hole_end x + 1) n xs (h ∷ post) runs.3) in
    let reach = next_le (hole_end x + 1) n xs far.0 in
    rw (leaves_before p s x runs.1 (omega (arith, far.1.0))) (ap (λ r. x ∷ r) (without_at (hole_end x + 1) n p s xs h post runs.3 low high))

hole_runs : (from to n : ℕ) (post : List Hole) → from ≤ to → to ≤ n → AreRuns (to + 1) n post → AreRuns from n (hole_of from to ++ post)
hole_runs from to n post ord le runs = grind (arith, cases_lt, earlier, hole_some, hole_none)

pub rest_runs : (from n p s : ℕ) (h : Hole) (post : List Hole) → AreRuns from n (h ∷ post) → 0 < s → h.place ≤ p → p + s ≤ hole_end h → AreRuns from n (rest_of p s h ++ post)
rest_runs from n p s h post runs some low high = grind (arith, append_assoc (hole_of h.place p) (hole_of (p + s) (hole_end h)) post, hole_runs (p + s) (hole_end h) n post high runs.2 runs.3, earlier)

pub end_below : (from n : ℕ) (hs : List Hole) (i : ℕ) (d : Hole) → AreRuns from n hs → i < length hs → hole_end (get_or hs i d) ≤ n
end_below from n [] i d runs inside = absurd (omega arith)
end_below from n (h ∷ hs) zero d runs inside = runs.2
end_below from n (h ∷ hs) (suc i) d runs inside = end_below (hole_end h + 1) n hs i d runs.3 (omega arith)

-- two different multiples of y are at least y apart
apart : (y a b q m : ℕ) → q ≡ y * a → m ≡ y * b → q < m → q + y ≤ m
apart y a b q m e f lt = grind (arith, cases_lt a b, mul-le-mul_left)

-- the least multiple of y from x on
pub least_multiple : (x y q m : ℕ) → 0 < y → m % y ≡ 0 → m < x + y → x ≤ q → q % y ≡ 0 → m ≤ q
least_multiple x y q m some even near from aligned = grind (arith, cases_lt q m, apart)

pub runs_without : (from n p s : ℕ) (pre : List Hole) (h : Hole) (post : List Hole) → AreRuns from n (pre ++ h ∷ post) → 0 < s → h.place ≤ p → p + s ≤ hole_end h
    → AreRuns from n (pre ++ (rest_of p s h ++ post))
runs_without from n p s pre h post runs some low high = grind (arith, runs_split, runs_join, rest_runs)

multiple : (x y : ℕ) → 0 < y → ((x + (y - x % y) % y) % y ≡ 0) × (x + (y - x % y) % y < x + y)
multiple x y some =
    elim (cases_eq (x % y) 0) [
      | inl even ↦ grind (arith, mod_self y)
      | inr odd ↦ (
          let part : (y - x % y) % y ≡ y - x % y = mod-eq_of_lt (omega arith) in
          let next_one : x + (y - x % y) % y ≡ y * (x / y + 1) = omega (arith, part) in
          (ap (λ n. n % y) next_one ∙ mul-mod_right y (x / y + 1), omega (arith, part))
          )
    ]

pub least_in : (h : Hole) (b x s y : ℕ) → x ≡ max h.place b → 0 < y → next_multiple_of x y ≤ hole_end h → s ≤ hole_end h - next_multiple_of x y
    → IsLeastIn h b s y (next_multiple_of x y)
least_in h b x s y is some low room = grind (arith, multiple x y some, has_from, has_facts, least_multiple)

pub none_in : (h : Hole) (b x s y : ℕ) → x ≡ max h.place b → 0 < s → 0 < y → hole_end h - next_multiple_of x y < s → NoneIn h b s y
none_in h b x s y is size some short q from even = grind (arith, cases_Bool (has_range q s h), multiple x y some, has_facts, least_multiple)

pub got : (xs : List Hole) (i : ℕ) (h d : Hole) → slice_get xs i ≡ Some h → (get_or xs i d ≡ h) × (i < length xs)
got xs i h d e = (get_or_from_slice_get xs i h d e, slice_get_within xs i h e)

-- what a range leaves of the hole in which it lies
rest_is : (p s : ℕ) (h : Hole) → h.place ≤ p → p + s ≤ hole_end h → rest_of p s h ≡ hole_of h.place p ++ hole_of (p + s) (hole_end h)
rest_is p s h low high = grind arith

or_second : (a b : Bool) → a ≡ false → (a || b) ≡ true → b ≡ true
or_second a b e f = grind (arith, clash)

pub drop_got : (xs : List Hole) (i : ℕ) (h : Hole) → slice_get xs i ≡ Some h → drop i xs ≡ h ∷ drop (suc i) xs
drop_got [] i h e = cc
drop_got (x ∷ xs) zero h e = cc
drop_got (x ∷ xs) (suc i) h e = drop_got xs i h e

pub split_got : (xs : List Hole) (i : ℕ) (h : Hole) → slice_get xs i ≡ Some h → xs ≡ take i xs ++ (h ∷ drop (suc i) xs)
split_got xs i h e = sym (take-append-drop i xs) ∙ ap (λ d. take i xs ++ d) (drop_got xs i h e)

pub some_len : (from n : ℕ) (xs : List Hole) (i : ℕ) (h : Hole) → AreRuns from n xs → slice_get xs i ≡ Some h → (0 < h.len) × (hole_end h ≤ n)
some_len from n xs i h runs e = let r = (runs_split from n (take i xs) (h ∷ drop (suc i) xs) (subst (AreRuns from n) (split_got xs i h e) runs)).1 in (r.1, r.2)

module _ (xs : List Hole) (i p s : ℕ) (h : Hole) (inside : i < length xs) (low : h.place ≤ p) (high : p + s ≤ hole_end h) where
  abbrev left : Hole
  left = record { place = h.place; len = p - h.place }

  abbrev right : Hole
  right = record { place = p + s; len = hole_end h - (p + s) }

  abbrev after_cut : List Hole
  after_cut = take i xs ++ (rest_of p s h ++ drop (i + 1) xs)

  to_rest : (ls rs : List Hole) → hole_of h.place p ≡ ls → hole_of (p + s) (hole_end h) ≡ rs → take i xs ++ (ls ++ rs ++ drop (suc i) xs) ≡ after_cut
  to_rest ls rs l r = grind (arith, rest_is p s h low high)

  pub cut_none : p - h.place ≡ 0 → hole_end h - (p + s) ≡ 0 → take i xs ++ drop (suc i) xs ≡ after_cut
  cut_none l r = to_rest [] [] (hole_none h.place p (omega arith)) (hole_none (p + s) (hole_end h) (omega arith))

  pub cut_left : p - h.place ≢ 0 → hole_end h - (p + s) ≡ 0 → set xs i left ≡ after_cut
  cut_left l r = set_split xs i left inside ∙ to_rest (left ∷ []) [] (hole_some h.place p (omega arith)) (hole_none (p + s) (hole_end h) (omega arith))

  pub cut_right : p - h.place ≡ 0 → hole_end h - (p + s) ≢ 0 → set xs i right ≡ after_cut
  cut_right l r = set_split xs i right inside ∙ to_rest [] (right ∷ []) (hole_none h.place p (omega arith)) (hole_some (p + s) (hole_end h) (omega arith))

  pub cut_both : p - h.place ≢ 0 → hole_end h - (p + s) ≢ 0 → slice_get xs i ≡ Some h → set (take i xs ++ left ∷ drop i xs) (i + 1) right ≡ after_cut
  cut_both l r is =
      let here : drop i xs ≡ h ∷ drop (suc i) xs = drop_got xs i h is in
      let pre : length (take i xs ++ left ∷ []) ≡ i + 1 = length_push (take i xs) left ∙ ap (λ n. n + 1) (length-take-le i xs (omega arith)) in
      ap (λ d. set (take i xs ++ left ∷ d) (i + 1) right) here
      ∙ ap (λ l. set l (i + 1) right) (sym (append_assoc (take i xs) (left ∷ []) (h ∷ drop (suc i) xs)))
      ∙ set_at (take i xs ++ left ∷ []) h (drop (suc i) xs) right (i + 1) pre
      ∙ append_assoc (take i xs) (left ∷ []) (right ∷ drop (suc i) xs)
      ∙ to_rest (left ∷ []) (right ∷ []) (hole_some h.place p (omega arith)) (hole_some (p + s) (hole_end h) (omega arith))

-- the element that was read is the hole in which the range fits
pub read_hole : (xs : List Hole) (i p s : ℕ) (r : Hole) → FitsAt xs i p s → r ≡ get_or xs i r
    → (r.place ≤ p) × (p + s ≤ hole_end r) × (hole_end r ≤ 4294967296) × ((h : Hole) → slice_get xs i ≡ Some h → r ≡ h)
read_hole xs i p s r f is = grind (arith, slice_get, got, has_facts)

pub fits_any : (xs : List Hole) (i : ℕ) (h : Hole) (size place : ℕ) → slice_get xs i ≡ Some h → has_range place size h ≡ true → is_hole_range xs place size ≡ true
fits_any [] i h size place is fits = cc
fits_any (x ∷ xs) zero h size place is fits = grind arith
fits_any (x ∷ xs) (suc i) h size place is fits = let rest = fits_any xs i h size place is fits in or_right (has_range place size x) _ rest

-- a range in one of these holes begins no earlier than they do
begins : (from n : ℕ) (xs : List Hole) (q size : ℕ) → AreRuns from n xs → is_hole_range xs q size ≡ true → from ≤ q
begins from n [] q size runs fits = clash fits refl
begins from n (x ∷ xs) q size runs fits =
    elim (or_cases (has_range q size x) _ fits) [
      | inl here ↦ (let facts = has_facts q size x here in let low = runs.0 in omega (arith, facts.0))
      | inr later ↦ (let rest = begins (hole_end x + 1) n xs q size runs.3 later in let low = runs.0 in omega (arith, rest))
    ]

least_of : (from n : ℕ) (xs : List Hole) (i : ℕ) (h : Hole) (b size align place q : ℕ) → AreRuns from n xs → slice_get xs i ≡ Some h
    → IsLeastIn h b size align place → is_hole_range (take i xs) q size ≡ false → b ≤ q → q % align ≡ 0 → is_hole_range xs q size ≡ true → place ≤ q
least_of from n [] i h b size align place q runs is here none behind even fits = cc
least_of from n (x ∷ xs) zero h b size align place q runs is here none behind even fits = grind (arith, has_facts place size h here.fits, or_cases, begins)
least_of from n (x ∷ xs) (suc i) h b size align place q runs is here none behind even fits =
    let apart = or_parts (has_range q size x) (is_hole_range (take i xs) q size) none in
    least_of (hole_end x + 1) n xs i h b size align place q runs.3 is here apart.1 behind even (or_second (has_range q size x) _ apart.0 fits)

-- the first hole with a fit has the least one of all, since the holes stand in order
pub first_is_least : (from n : ℕ) (xs : List Hole) (i : ℕ) (h : Hole) (b size align place : ℕ) → AreRuns from n xs → slice_get xs i ≡ Some h
    → IsLeastIn h b size align place → HasNoFitFrom (take i xs) b size align → 0 < size → IsFirstFitFrom xs b size align place
first_is_least from n xs i h b size align place runs is here none some = grind (arith, fits_any xs i h size place is here.fits, least_of)

pub widen : (from n m : ℕ) (hs : List Hole) → AreRuns from n hs → n ≤ m → AreRuns from m hs
widen from n m [] runs le = tt
widen from n m (h ∷ hs) runs le = (runs.0, runs.1, omega arith, widen (hole_end h + 1) n m hs runs.3 le)

free_hole : (a b k : ℕ) → is_free (hole_of a b) k ≡ (leb a k && ltb k b)
free_hole a b k = grind (arith, cases_lt a b, nat_tests, hole_some, hole_none)

free_rest : (p s : ℕ) (h : Hole) (k : ℕ) → is_free (rest_of p s h) k ≡ (has_range k 1 h && not (in_range p s k))
free_rest p s h k = grind (arith, list_any-append, free_hole, nat_tests)

spread : (a b n : Bool) → ((a && n) || (b && n)) ≡ ((a || b) && n)
spread a b n = grind arith

free_without : (p s : ℕ) (xs : List Hole) (k : ℕ) → is_free (holes_without p s xs) k ≡ (is_free xs k && not (in_range p s k))
free_without p s [] k = refl
free_without p s (x ∷ xs) k =
    grind (arith, list_any-append (has_range k 1) (rest_of p s x) (holes_without p s xs), free_rest p s x k, free_without p s xs k, spread (has_range k 1 x) (is_free xs k) (not (in_range p s k)))

-- the holes after a range was cut out of the one in which it lies
pub record IsCut (n p s : ℕ) (xs ys : List Hole) : Type 0 where
  pub rest : ys ≡ holes_without p s xs
  pub runs : AreRuns 0 n ys
  pub free : (k : ℕ) → is_free ys k ≡ (is_free xs k && not (in_range p s k))

pub cut_is : {n p s i : ℕ} {xs lent ys : List Hole} → AreRuns 0 n xs → 0 < s → lent ≡ xs → FitsAt lent i p s
    → ((h : Hole) → slice_get xs i ≡ Some h → ys ≡ take i xs ++ (rest_of p s h ++ drop (i + 1) xs)) → IsCut n p s xs ys
cut_is {n} {p} {s} {i} {xs} {lent} {ys} runs some same at is =
    let f = subst (λ l. FitsAt l i p s) same at in
    let facts = has_facts p s f.hole f.fits in
    let up : i + 1 ≡ suc i = omega arith in
    let old : xs ≡ take i xs ++ (f.hole ∷ drop (suc i) xs) = sym (take-append-drop i xs) ∙ ap (λ d. take i xs ++ d) (drop_got xs i f.hole f.is) in
    let new : ys ≡ take i xs ++ (rest_of p s f.hole ++ drop (suc i) xs) = is f.hole f.is ∙ ap (λ j. take i xs ++ (rest_of p s f.hole ++ drop j xs)) up in
    let here = subst (AreRuns 0 n) old runs in
    let rest : ys ≡ holes_without p s xs = new ∙ sym (ap (holes_without p s) old ∙ without_at 0 n p s (take i xs) f.hole (drop (suc i) xs) here facts.0 facts.1) in
    record {
      rest = rest;
      runs = subst (AreRuns 0 n) (sym new) (runs_without 0 n p s (take i xs) f.hole (drop (suc i) xs) here some facts.0 facts.1);
      free = λ k. ap (λ l. is_free l k) rest ∙ free_without p s xs k;
    }
