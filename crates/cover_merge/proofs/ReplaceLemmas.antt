-- Putting an item in and taking out those at places before it, in one pass.
use Rattle.cover_merge.proofs.Common.{All, All-cons, All-nil, AllPairs, AllPairs-cons, List, [], ap, append_assoc, arith, cases_lt, copy_within, drop, drop-cons, drop-drop, drop-paste, drop-put_mid}
use Rattle.cover_merge.proofs.Common.{drop-set-lt, drop-take, false, false_from_ne_true, get_or, get_or-append_seam, get_or_append_left, has_row, insert, length, length-append, length-drop}
use Rattle.cover_merge.proofs.Common.{length-paste, length-take, not, paste, rules, set, subst, suc, sym, take, take-add, take-paste, take_all, take_at, take_more_set, true, zero, ℕ, ◌++◌, ◌+◌, ◌-◌}
use Rattle.cover_merge.proofs.Common.{◌<◌, ◌∙◌, ◌∷◌, ◌≡◌, ◌≤◌}
use Rattle.cover_merge.proofs.{ApplyLemmas.left, ApplyLemmas.kept_out, ApplyLemmas.kept_free, ApplyLemmas.kept_none, ApplyLemmas.picked-append, Lists.AllPairs-append, Lists.AllPairs-nil}
use Rattle.cover_merge.proofs.Positions.{has-at, has-place}

-- ---- items moved down

-- Items from place `from` up to `to` are moved down by so many places, and those from `to` on are as they were.
pub record IsMovedDown {X : Type 0} (from to by : ℕ) (old new : List X) : Type 0 where
  pub one_each : length new ≡ length old
  pub front : take (to - by) new ≡ take (from - by) old ++ take (to - from) (drop from old)
  pub rest : drop to new ≡ drop to old

-- by a rotation of the part that starts so many places before them
pub rotated_down : {X : Type 0} (from to by len : ℕ) (old held part beyond : List X) → by ≤ from → from ≤ to → to ≤ length old → len ≡ length old → held ≡ old
    → part ≡ drop by (take (to - (from - by)) (drop (from - by) held)) ++ take by (take (to - (from - by)) (drop (from - by) held))
    → IsMovedDown from to by old (take len ((take (from - by) held ++ (part ++ drop (to - (from - by)) (drop (from - by) held))) ++ beyond))
rotated_down from to by len old held part beyond fits order inside many same made =
    let a = from - by in
    let n = to - a in
    let m = to - from in
    let mid = take n (drop a old) in
    let behind = drop n (drop a old) in
    let first = take a old ++ take m (drop from old) in
    let start : a + by ≡ from = omega (arith, fits) in
    let parts : n ≡ by + m = omega (arith, fits, order) in
    let moved : drop by mid ≡ take m (drop from old) =
    ap (λ k. drop by (take k (drop a old))) parts ∙ drop-take by m (drop a old) ∙ ap (take m) (drop-drop by a old ∙ ap (λ k. drop k old) start) in
    let is : part ≡ take m (drop from old) ++ take by mid =
    made ∙ ap (λ l. drop by (take n (drop a l)) ++ take by (take n (drop a l))) same ∙ ap (λ l. l ++ take by mid) moved in
    let long : length part ≡ n =
    omega (arith, ap length is, length-append (take m (drop from old)) (take by mid), length-take m (drop from old), length-drop from old, length-take by mid, length-take n (drop a old), length-drop a old, fits, order, inside) in
    let whole : length (take a old ++ (part ++ behind)) ≡ len =
    omega (arith, length-append (take a old) (part ++ behind), length-append part behind, long, length-take a old, length-drop n (drop a old), length-drop a old, many, fits, order, inside) in
    let now_is : take len ((take a held ++ (part ++ drop n (drop a held))) ++ beyond) ≡ take a old ++ (part ++ behind) =
    ap (λ l. take len ((take a l ++ (part ++ drop n (drop a l))) ++ beyond)) same ∙ take_at (take a old ++ (part ++ behind)) beyond len whole in
    let count : length first ≡ to - by =
    omega (arith, length-append (take a old) (take m (drop from old)), length-take a old, length-take m (drop from old), length-drop from old, fits, order, inside) in
    let split : take a old ++ (part ++ behind) ≡ first ++ (take by mid ++ behind) =
    ap (λ l. take a old ++ (l ++ behind)) is
    ∙ ap (λ l. take a old ++ l) (append_assoc (take m (drop from old)) (take by mid) behind)
    ∙ sym (append_assoc (take a old) (take m (drop from old)) (take by mid ++ behind)) in record {
      one_each = ap length now_is ∙ whole ∙ many;
      front = ap (take (to - by)) (now_is ∙ split) ∙ take_at first (take by mid ++ behind) (to - by) count;
      rest = ap (drop to) now_is ∙ drop-put_mid a n old part to (omega (arith, fits, order)) (omega (arith, order, inside)) long;
    }

-- the same by one copy
pub copied_down : {X : Type 0} (from to by dest : ℕ) (old new : List X) → by ≤ from → from ≤ to → to ≤ length old → dest ≡ from - by → new ≡ copy_within old from to dest → IsMovedDown from to by old new
copied_down from to by dest old new fits order inside at made =
    let goes_to = from - by in
    let n = to - from in
    let tail = drop from old in
    let is : new ≡ paste old goes_to tail n = made ∙ ap (λ m. copy_within old from to m) at in
    let behind : goes_to + n ≡ to - by = omega (arith, fits, order) in
    let goes : goes_to ≤ length old = omega (arith, order, inside) in
    let enough : n ≤ length tail = omega (arith, length-drop from old, order, inside) in
    let beyond : to ≡ goes_to + n + by = omega (arith, fits, order) in record {
      one_each = ap length is ∙ length-paste old goes_to tail n (omega (arith, fits, order, inside)) enough;
      front = ap (take (to - by)) is ∙ ap (λ m. take m (paste old goes_to tail n)) (sym behind) ∙ take-paste old goes_to tail n goes enough;
      rest = grind (arith, paste old goes_to tail n, drop-drop by (goes_to + n) (paste old goes_to tail n), drop-paste old goes_to tail n goes enough, drop-drop by (goes_to + n) old);
    }

-- ---- the places one after another

-- the places, and that behind all
abbrev pub end_of : List ℕ → ℕ → ℕ → ℕ
end_of places place i = get_or (places ++ place ∷ []) i 0

-- Items before place i are closed up, and those from it on are as they were.
pub record IsClosedUp {X : Type 0} (places : List ℕ) (place : ℕ) (old : List X) (i : ℕ) (items : List X) : Type 0 where
  pub one_each : length items ≡ length old
  pub front : take (end_of places place i - i) items ≡ left places 0 (take (end_of places place i) old)
  pub rest : drop (end_of places place i) items ≡ drop (end_of places place i) old

module _ (places : List ℕ) (place : ℕ) (ascending : AllPairs (λ s t. s < t) places) (before : All (λ s. s < place) places) where
  abbrev end_at : ℕ → ℕ
  end_at i = end_of places place i

  ends_ascend : AllPairs (λ s t. s < t) (places ++ place ∷ [])
  ends_ascend =
      AllPairs-append (λ s t. s < t) places (place ∷ []) ascending (AllPairs-cons (λ s t. s < t) place [] (All-nil (λ t. place < t)) (AllPairs-nil (λ s t. s < t)))
      (λ k d within. All-cons (λ t. get_or places k d < t) place [] (before k d within) (All-nil (λ t. get_or places k d < t)))

  pub many : length (places ++ place ∷ []) ≡ length places + 1
  many = length-append places (place ∷ [])

  pub end_next : (i : ℕ) → i < length places → end_at i < end_at (i + 1)
  end_next i within = ends_ascend i (i + 1) 0 (omega arith) (omega (arith, many, within))

  pub end_last : end_at (length places) ≡ place
  end_last = get_or-append_seam places place [] 0

  pub end_least : (i : ℕ) → i ≤ length places → i ≤ end_at i
  end_least zero within = omega arith
  end_least (suc i) within = grind (arith, ends_ascend i (suc i) 0 (omega arith) (omega (arith, many, within)), end_least i (omega (arith, within)))

  pub end_most : (i : ℕ) → i ≤ length places → end_at i ≤ place
  end_most i within = grind (arith, end_last, cases_lt, many, ends_ascend)

  pub end_is : (i : ℕ) → i < length places → end_at i ≡ get_or places i 0
  end_is i within = get_or_append_left places (place ∷ []) 0 i within

  -- no place is between two that follow each other, or before the first
  free_between : (i k : ℕ) → i < length places → end_at i < k → k < end_at (i + 1) → has_row places k ≡ false
  free_between i k within after less = grind (arith, false_from_ne_true, has-place, end_is, cases_lt, many, ends_ascend)

  free_first : (k : ℕ) → k < end_at 0 → has_row places k ≡ false
  free_first k less = search (rules, false_from_ne_true, has-place, end_is, cases_lt, many, ends_ascend)

  module _ {X : Type 0} (item : X) (old : List X) (fits : place ≤ length old) where
    pub none_closed : IsClosedUp places place old 0 old
    none_closed = grind (arith, length-take (end_at 0) old, kept_free, free_first)

    module _ (i : ℕ) (within : i < length places) (items new : List X) (closed : IsClosedUp places place old i items) where
      -- the item at place i goes, and those up to the next follow
      front_more : left places 0 (take (end_at (i + 1)) old) ≡ left places 0 (take (end_at i) old) ++ take (end_at (i + 1) - (end_at i + 1)) (drop (end_at i + 1) old)
      front_more =
          let a = end_at i in
          let b = end_at (i + 1) in
          let n = b - (a + 1) in
          let next = end_next i within in
          let most = end_most (i + 1) (omega (arith, within)) in
          let parts : b ≡ a + suc n = omega (arith, next) in
          let one : suc a ≡ a + 1 = omega arith in
          let x = get_or old a item in
          let count : 0 + length (take a old) ≡ a = omega (arith, length-take a old, next, most, fits) in
          let found : has_row places a ≡ true = ap (has_row places) (end_is i within) ∙ has-at places i within in
          ap (λ m. left places 0 (take m old)) parts
          ∙ ap (left places 0) (take-add a (suc n) old)
          ∙ picked-append (λ k. not (has_row places k)) 0 (take a old) (take (suc n) (drop a old))
          ∙ ap (λ m. left places 0 (take a old) ++ left places m (take (suc n) (drop a old))) count
          ∙ ap (λ l. left places 0 (take a old) ++ left places a (take (suc n) l)) (drop-cons old a item (omega (arith, next, most, fits)))
          ∙ ap (λ l. left places 0 (take a old) ++ l)
          (kept_out places a x (take n (drop (suc a) old)) found
          ∙ kept_free places (suc a) (take n (drop (suc a) old)) (λ k from less. free_between i k within (omega (arith, from)) (omega (arith, less, length-take n (drop (suc a) old), next)))
          ∙ ap (λ m. take n (drop m old)) one)

      rest_on : (m : ℕ) → drop (end_at i + m) items ≡ drop (end_at i + m) old
      rest_on m = sym (drop-drop m (end_at i) items) ∙ ap (drop m) closed.rest ∙ drop-drop m (end_at i) old

      -- what the code reads
      pub starts : (from to : ℕ) → from ≡ get_or places i 0 + 1 → to ≡ end_at (i + 1) → (i ≤ from - 1) × (from ≤ to) × (to ≤ length items) × (from - 1 - i + (to - from) ≤ length items)
      starts from to read ends = grind (arith, end_is i within, end_next i within, end_most (i + 1) (omega (arith, within)), end_least i (omega (arith, within)))

      pub one_closed : (from to : ℕ) → from ≡ get_or places i 0 + 1 → to ≡ end_at (i + 1) → IsMovedDown from to (i + 1) items new → IsClosedUp places place old (i + 1) new
      one_closed from to read ends moved = grind (arith, end_is i within, end_next i within, left places 0 (take (end_at i) old), rest_on 1, front_more, rest_on ((end_at (i + 1)) - (end_at i)))

    -- the item goes behind those that are left, and the rest closes up
    pub room : 0 < length places → (length places ≤ place) × (place - length places < length old)
    room some = let least : length places ≤ place = omega (arith, end_least (length places) (omega arith), end_last) in (least, omega (arith, least, some, fits))

    pub all_closed : (items new : List X) → 0 < length places → IsClosedUp places place old (length places) items
        → IsMovedDown place (length old) (length places - 1) (set items (place - length places) item) new
        → take (length old - (length places - 1)) new ≡ left places 0 (insert old place item)
    all_closed items new some closed moved =
        let k = length places in
        let at = place - k in
        let written = set items at item in
        let n = length old - place in
        let least : k ≤ place = omega (arith, end_least k (omega arith), end_last) in
        let after : place - (k - 1) ≡ at + 1 = omega (arith, least, some) in
        let front : take at items ≡ left places 0 (take place old) = subst (λ p. take (p - k) items ≡ left places 0 (take p old)) end_last closed.front in
        let rest : drop place items ≡ drop place old = subst (λ p. drop p items ≡ drop p old) end_last closed.rest in
        let count : 0 + length (take place old) ≡ place = omega (arith, length-take place old, fits) in
        moved.front
        ∙ ap (λ m. take m written ++ take n (drop place written)) after
        ∙ ap (λ l. l ++ take n (drop place written)) (take_more_set items at item (omega (arith, closed.one_each, least, some, fits)) ∙ ap (λ l. l ++ item ∷ []) front)
        ∙ ap (λ l. (left places 0 (take place old) ++ item ∷ []) ++ take n l) (drop-set-lt place items at item (omega (arith, least, some)) ∙ rest)
        ∙ ap (λ l. (left places 0 (take place old) ++ item ∷ []) ++ l) (take_all n (drop place old) (omega (arith, length-drop place old)))
        ∙ append_assoc (left places 0 (take place old)) (item ∷ []) (drop place old)
        ∙ sym (picked-append (λ j. not (has_row places j)) 0 (take place old) (item ∷ drop place old)
        ∙ ap (λ m. left places 0 (take place old) ++ left places m (item ∷ drop place old)) count
        ∙ ap (λ l. left places 0 (take place old) ++ l) (kept_none places place (item ∷ drop place old) before))
