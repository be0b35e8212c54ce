-- A range put back among the holes.
use Rattle.range_store.proofs.Common.{AreNeighbours, AreRuns, Bool, Hole, IsOk, IsPutBack, List, MatchOption, None, NoneIsFree, Option, Result, Some, [], ap, append_assoc, arith, cases_lt, drop}
use Rattle.range_store.proofs.Common.{get_or, has_range, hole_end, if◌then◌else◌, in_range, inl, inr, is_free, is_ok, length, length-take-le, list_any-append, nat_tests, refl, rules, set, set_at}
use Rattle.range_store.proofs.Common.{set_split, slice_get, slice_get-get_or, slice_get_within, subst, suc, sym, take, take-append-drop, true, zero, ℕ, ◌++◌, ◌+◌, ◌-◌, ◌<◌, ◌||◌, ◌∙◌, ◌∷◌, ◌≡◌, ◌≢◌}
use Rattle.range_store.proofs.Common.{◌≤◌}
use Rattle.range_store.proofs.RunLemmas.{next, runs_split, runs_join, earlier, fits_any, drop_got, split_got, some_len}
use Rattle.range_store.proofs.HolePlaces.{clash, has_from}

-- one hole in place of some, of which it has the places, and those of a range
module _ (n p s : ℕ) (pre mid post : List Hole) (m : Hole) (runs : AreRuns 0 n (pre ++ (mid ++ post)))
    (same : (k : ℕ) → has_range k 1 m ≡ (is_free mid k || in_range p s k)) where
  regroup : (a b c d r : Bool) → b ≡ (c || r) → (a || (b || d)) ≡ ((a || (c || d)) || r)
  regroup a b c d r e = grind arith

  put_free : (k : ℕ) → is_free (pre ++ m ∷ post) k ≡ (is_free (pre ++ (mid ++ post)) k || in_range p s k)
  put_free k = search (rules, list_any-append, regroup)

  put_runs : next 0 pre ≤ m.place → 0 < m.len → hole_end m ≤ n → AreRuns (hole_end m + 1) n post → AreRuns 0 n (pre ++ m ∷ post)
  put_runs start some within after = runs_join 0 n pre (m ∷ post) (runs_split 0 n pre (mid ++ post) runs).0 (start, some, within, after)

next_last : (from : ℕ) (pre : List Hole) (l : Hole) → next from (pre ++ l ∷ []) ≡ hole_end l + 1
next_last from [] l = refl
next_last from (x ∷ xs) l = next_last (hole_end x + 1) xs l

take_got : (xs : List Hole) (i : ℕ) (h : Hole) → slice_get xs i ≡ Some h → take (suc i) xs ≡ take i xs ++ h ∷ []
take_got [] i h e = cc
take_got (x ∷ xs) zero h e = let same : x ≡ h = cc in ap (λ y. y ∷ []) same
take_got (x ∷ xs) (suc i) h e = ap (λ r. x ∷ r) (take_got xs i h e)

get_dropped : (xs : List Hole) (i : ℕ) (h : Hole) → slice_get (drop i xs) 0 ≡ Some h → slice_get xs i ≡ Some h
get_dropped xs zero h e = e
get_dropped [] (suc i) h e = cc
get_dropped (x ∷ xs) (suc i) h e = get_dropped xs i h e

has_none : (k p s : ℕ) → has_range k 1 (record { place = p; len = s }) ≡ (is_free [] k || in_range p s k)
has_none k p s = grind (arith, nat_tests)

has_right : (k p s : ℕ) (r : Hole) → r.place ≡ p + s → has_range k 1 (record { place = p; len = s + r.len }) ≡ (is_free (r ∷ []) k || in_range p s k)
has_right k p s r meets = grind (arith, nat_tests)

has_left : (k p s : ℕ) (l : Hole) → hole_end l ≡ p → has_range k 1 (record { place = l.place; len = l.len + s }) ≡ (is_free (l ∷ []) k || in_range p s k)
has_left k p s l meets = grind (arith, nat_tests)

has_both : (k p s : ℕ) (l r : Hole) → hole_end l ≡ p → r.place ≡ p + s →
    has_range k 1 (record { place = l.place; len = l.len + s + r.len }) ≡ (is_free (l ∷ r ∷ []) k || in_range p s k)
has_both k p s l r a b = grind (arith, nat_tests)

later : (from to n : ℕ) (post : List Hole) → AreRuns from n post → ((h : Hole) → slice_get post 0 ≡ Some h → to ≤ h.place) → AreRuns to n post
later from to n [] runs first = tt
later from to n (h ∷ hs) runs first = (first h refl, runs.1, runs.2, runs.3)

module _ (n p s a : ℕ) (xs : List Hole) (some : 0 < s) (within : p + s ≤ n) (runs : AreRuns 0 n xs)
    (taken : NoneIsFree xs p s)
    (before : (k : ℕ) (h : Hole) → k < a → slice_get xs k ≡ Some h → h.place < p)
    (first : (h : Hole) → slice_get xs a ≡ Some h → p ≤ h.place) where
  free_at : (i : ℕ) (h : Hole) (k : ℕ) → slice_get xs i ≡ Some h → h.place ≤ k → k < hole_end h → is_free xs k ≡ true
  free_at i h k e low high = fits_any xs i h 1 k e (has_from k 1 h low (omega arith))

  -- a place is not both free and of the range
  both : {A : Type 0} (i : ℕ) (h : Hole) (k : ℕ) → slice_get xs i ≡ Some h → h.place ≤ k → k < hole_end h → p ≤ k → k < p + s → A
  both {A} i h k e low high from to =
      let inside : in_range p s k ≡ true = grind (arith, nat_tests) in clash (free_at i h k e low high) (taken k inside)

  right_gap : (r : Hole) → slice_get xs a ≡ Some r → p + s ≤ r.place
  right_gap r e =
      let long = (some_len 0 n xs a r runs e).0 in
      elim (cases_lt r.place (p + s)) [
        | inl less ↦ both a r r.place e (omega arith) (omega (arith, long)) (first r e) less
        | inr more ↦ more
      ]

  left_gap : (i : ℕ) (l : Hole) → a ≡ suc i → slice_get xs i ≡ Some l → hole_end l ≤ p
  left_gap i l is e =
      let low = before i l (omega arith) e in
      elim (cases_lt p (hole_end l)) [
        | inl less ↦ both i l p e (omega arith) less (omega arith) (omega arith)
        | inr more ↦ more
      ]

  start_none : ((l : Hole) → 0 < a → slice_get xs (a - 1) ≡ Some l → hole_end l ≢ p) → (i : ℕ) → a ≡ i → i ≤ length xs → next 0 (take i xs) ≤ p
  start_none apart zero is le = omega arith
  start_none apart (suc i) is le =
      let back : a - 1 ≡ i = omega arith in
      let l = get_or xs i (record { place = 0; len = 0 }) in
      let e = slice_get-get_or xs i (record { place = 0; len = 0 }) (omega arith) in
      let gap = left_gap i l is e in
      let ne = apart l (omega arith) (ap (slice_get xs) back ∙ e) in
      let last = ap (next 0) (take_got xs i l e) ∙ next_last 0 (take i xs) l in
      omega (arith, gap, ne, last)

  start_left : (i : ℕ) (l : Hole) → slice_get xs i ≡ Some l → next 0 (take i xs) ≤ l.place
  start_left i l e = (runs_split 0 n (take i xs) (l ∷ drop (suc i) xs) (subst (AreRuns 0 n) (split_got xs i l e) runs)).1.0

  after_none : ((r : Hole) → slice_get xs a ≡ Some r → r.place ≢ p + s) → AreRuns (p + s + 1) n (drop a xs)
  after_none apart =
      grind (arith, next 0 (take a xs), runs_split 0 n (take a xs) (drop a xs) (subst (AreRuns 0 n) (sym (take-append-drop a xs)) runs), take-append-drop a xs, later, get_dropped, right_gap)

  after_right : (r : Hole) → slice_get xs a ≡ Some r → AreRuns (hole_end r + 1) n (drop (suc a) xs)
  after_right r e = (runs_split 0 n (take a xs) (r ∷ drop (suc a) xs) (subst (AreRuns 0 n) (split_got xs a r e) runs)).1.3

  -- one hole in place of those between two places of the list
  gives : (i j : ℕ) (mid : List Hole) (m : Hole) (ys : List Hole) → xs ≡ take i xs ++ (mid ++ drop j xs) → ys ≡ take i xs ++ m ∷ drop j xs
      → ((k : ℕ) → has_range k 1 m ≡ (is_free mid k || in_range p s k)) → next 0 (take i xs) ≤ m.place → 0 < m.len → hole_end m ≤ n
      → AreRuns (hole_end m + 1) n (drop j xs) → IsPutBack p s n xs ys
  gives i j mid m ys old new same start long below after =
      let here = subst (AreRuns 0 n) old runs in
      let free = put_free n p s (take i xs) mid (drop j xs) m here same in
      subst (IsPutBack p s n xs) (sym new) (
        λ k. free k ∙ ap (λ l. is_free l k || in_range p s k) (sym old),
        put_runs n p s (take i xs) mid (drop j xs) m here same start long below after,
      )

  give_none : a ≤ length xs → ((l : Hole) → 0 < a → slice_get xs (a - 1) ≡ Some l → hole_end l ≢ p) → ((r : Hole) → slice_get xs a ≡ Some r → r.place ≢ p + s)
      → IsPutBack p s n xs (take a xs ++ record { place = p; len = s } ∷ drop a xs)
  give_none le no_left no_right =
      gives a a [] (record { place = p; len = s }) _ (sym (take-append-drop a xs)) refl (λ k. has_none k p s)
      (start_none no_left a refl le) some within (after_none no_right)

  give_right : (r : Hole) → a ≤ length xs → ((l : Hole) → 0 < a → slice_get xs (a - 1) ≡ Some l → hole_end l ≢ p) → slice_get xs a ≡ Some r → r.place ≡ p + s
      → IsPutBack p s n xs (set xs a (record { place = p; len = s + r.len }))
  give_right r le no_left e meets =
      let long = some_len 0 n xs a r runs e in
      gives a (suc a) (r ∷ []) (record { place = p; len = s + r.len }) _ (split_got xs a r e) (set_split xs a _ (slice_get_within xs a r e)) (λ k. has_right k p s r meets)
      (start_none no_left a refl le) (omega arith) (omega (arith, long.1)) (earlier (hole_end r + 1) _ n _ (after_right r e) (omega arith))

  give_left : (l : Hole) → 0 < a → slice_get xs (a - 1) ≡ Some l → hole_end l ≡ p → ((r : Hole) → slice_get xs a ≡ Some r → r.place ≢ p + s)
      → IsPutBack p s n xs (set xs (a - 1) (record { place = l.place; len = l.len + s }))
  give_left l some_before e meets no_right =
      let up : suc (a - 1) ≡ a = omega arith in
      let m : Hole = record { place = l.place; len = l.len + s } in
      gives (a - 1) a (l ∷ []) m _
      (split_got xs (a - 1) l e ∙ ap (λ j. take (a - 1) xs ++ (l ∷ drop j xs)) up)
      (set_split xs (a - 1) m (slice_get_within xs (a - 1) l e) ∙ ap (λ j. take (a - 1) xs ++ m ∷ drop j xs) up)
      (λ k. has_left k p s l meets) (start_left (a - 1) l e) (omega arith) (omega arith)
      (earlier (p + s + 1) (hole_end m + 1) n _ (after_none no_right) (omega arith))

  give_both : (l r : Hole) → 0 < a → slice_get xs (a - 1) ≡ Some l → hole_end l ≡ p → slice_get xs a ≡ Some r → r.place ≡ p + s
      → IsPutBack p s n xs (set (take a xs ++ drop (suc a) xs) (a - 1) (record { place = l.place; len = l.len + s + r.len }))
  give_both l r some_before e meets f meets_right =
      let up : suc (a - 1) ≡ a = omega arith in
      let m : Hole = record { place = l.place; len = l.len + s + r.len } in
      let inside = slice_get_within xs (a - 1) l e in
      let long = some_len 0 n xs a r runs f in
      let pre : take a xs ≡ take (a - 1) xs ++ l ∷ [] = ap (λ j. take j xs) (sym up) ∙ take_got xs (a - 1) l e in
      let rest : drop (suc (a - 1)) xs ≡ r ∷ drop (suc a) xs = ap (λ j. drop j xs) up ∙ drop_got xs a r f in
      gives (a - 1) (suc a) (l ∷ r ∷ []) m _
      (split_got xs (a - 1) l e ∙ ap (λ d. take (a - 1) xs ++ (l ∷ d)) rest)
      (ap (λ t. set (t ++ drop (suc a) xs) (a - 1) m) pre
      ∙ ap (λ t. set t (a - 1) m) (append_assoc (take (a - 1) xs) (l ∷ []) (drop (suc a) xs))
      ∙ set_at (take (a - 1) xs) l (drop (suc a) xs) m (a - 1) (length-take-le (a - 1) xs (omega (arith, inside))))
      (λ k. has_both k p s l r meets meets_right) (start_left (a - 1) l e) (omega arith) (omega (arith, long.1))
      (earlier (hole_end r + 1) (hole_end m + 1) n _ (after_right r f) (omega arith))

module _ {n p s a : ℕ} {xs lent : List Hole} {left right : Option Hole} (some : 0 < s) (within : p + s ≤ n) (runs : AreRuns 0 n xs)
    (same : lent ≡ xs) (lent_near : AreNeighbours lent p (p + s) a left right) where
  near : AreNeighbours xs p (p + s) a left right
  near = subst (λ l. AreNeighbours l p (p + s) a left right) same lent_near

  abbrev LeftIs : Option Hole → Type 0
  LeftIs o = MatchOption o ((h : Hole) → 0 < a → slice_get xs (a - 1) ≡ Some h → hole_end h ≢ p)
      (λ h. (0 < a) × (slice_get xs (a - 1) ≡ Some h) × (hole_end h ≡ p))

  abbrev RightIs : Option Hole → Type 0
  RightIs o = MatchOption o ((h : Hole) → slice_get xs a ≡ Some h → h.place ≢ p + s) (λ h. (slice_get xs a ≡ Some h) × (h.place ≡ p + s))

  pub arm_none : NoneIsFree xs p s → left ≡ None → right ≡ None → IsPutBack p s n xs (take a xs ++ record { place = p; len = s } ∷ drop a xs)
  arm_none taken l r = give_none n p s a xs some within runs taken near.before near.first near.within (subst LeftIs l near.left_is) (subst RightIs r near.right_is)

  pub arm_right : {y : Hole} → NoneIsFree xs p s → left ≡ None → right ≡ Some y → IsPutBack p s n xs (set xs a (record { place = p; len = s + y.len }))
  arm_right {y} taken l r =
      let is = subst RightIs r near.right_is in
      give_right n p s a xs some within runs taken near.before near.first y near.within (subst LeftIs l near.left_is) is.0 is.1

  pub arm_left : {x : Hole} → NoneIsFree xs p s → left ≡ Some x → right ≡ None → IsPutBack p s n xs (set xs (a - 1) (record { place = x.place; len = x.len + s }))
  arm_left {x} taken l r =
      let is = subst LeftIs l near.left_is in
      give_left n p s a xs some within runs taken near.before near.first x is.0 is.1 is.2 (subst RightIs r near.right_is)

  pub arm_both : {x y : Hole} → NoneIsFree xs p s → left ≡ Some x → right ≡ Some y
      → IsPutBack p s n xs (set (take a xs ++ drop (suc a) xs) (a - 1) (record { place = x.place; len = x.len + s + y.len }))
  arm_both {x} {y} taken l r =
      let is = subst LeftIs l near.left_is in
      let at = subst RightIs r near.right_is in
      give_both n p s a xs some within runs taken near.before near.first x y is.0 is.1 is.2 at.0 at.1

  -- the neighbours, as numbers
  pub right_end : {y : Hole} → right ≡ Some y → (a < length xs) × (y.place ≡ p + s) × (hole_end y ≤ n)
  right_end {y} r = let is = subst RightIs r near.right_is in (slice_get_within xs a y is.0, is.1, (some_len 0 n xs a y runs is.0).1)

  pub left_end : {x : Hole} → left ≡ Some x → (0 < a) × (hole_end x ≡ p)
  left_end l = let is = subst LeftIs l near.left_is in (is.0, is.2)

pub inserted : {E : Type 0} (r : Result (Unit {0}) E) (ys zs : List Hole) {ws : List Hole} → IsOk r → ws ≡ (if is_ok r then ys else zs) → ws ≡ ys
inserted r ys zs ok e = grind arith
