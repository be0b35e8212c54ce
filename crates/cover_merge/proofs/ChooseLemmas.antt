-- The places of a route, and pairs.
use Rattle.cover_merge.proofs.Common.{All-nil, AreNexts, AreThose, Bool, IsFirstLegalPair, IsFirstPartner, IsLegalPair, IsMergeSet, IsNextOfRoute, IsOneRoute, List, Route, Row, [], add-one, ap}
use Rattle.cover_merge.proofs.Common.{append-nil, arith, cond, eqb_tells, false, get_or, get_or_default, inl, inr, length, length-take, merge_rows, places_of, same_route, subst, suc, sym, take}
use Rattle.cover_merge.proofs.Common.{take_all, take_more, true, zero, ℕ, ◌++◌, ◌+◌, ◌-◌, ◌<◌, ◌==◌, ◌∙◌, ◌∷◌, ◌≡◌, ◌≢◌, ◌≤◌, ◌⊎◌}
use Rattle.cover_merge.proofs.{Positions.those_case, Positions.those_more, Positions.those_next, Positions.those_one, Positions.those_stay, Positions.pair_set, Lists.AllPairs-nil, Lists.cond_of}

-- ---- the places of a route

pub places_of-append : (bits i : ℕ) (xs ys : List Row) → places_of bits i (xs ++ ys) ≡ places_of bits i xs ++ places_of bits (i + length xs) ys
places_of-append bits i [] ys = ap (λ j. places_of bits j ys) (omega arith)
places_of-append bits i (x ∷ xs) ys = grind (arith, places_of-append bits (suc i) xs ys, cond_of)

places_of-next : (bits k : ℕ) (rows : List Row) (d : Row) → k < length rows → places_of bits 0 (take (k + 1) rows) ≡ places_of bits 0 (take k rows) ++ cond ((get_or rows k d).route.bits == bits) (k ∷ []) []
places_of-next bits k rows d within = grind (arith, length-take k rows, take_more rows k d within, places_of-append bits 0 (take k rows) (get_or rows k d ∷ []), get_or rows k d)

-- row s has a route of these bits
abbrev pub HasBits : ℕ → List Row → ℕ → Type 0
HasBits bits rows s = (s < length rows) × ((d : Row) → (get_or rows s d).route.bits ≡ bits)

-- it has not
abbrev pub LacksBits : ℕ → List Row → ℕ → Type 0
LacksBits bits rows s = s < length rows → (d : Row) → (get_or rows s d).route.bits ≢ bits

-- the places before place n of the rows of the route, in order
abbrev pub ArePlaces : ℕ → List Row → ℕ → List ℕ → Type 0
ArePlaces bits rows n places = AreThose (HasBits bits rows) (LacksBits bits rows) n places

places_to : (bits : ℕ) (rows : List Row) (n : ℕ) → n ≤ length rows → ArePlaces bits rows n (places_of bits 0 (take n rows))
places_to bits rows zero within = record { ascending = AllPairs-nil (λ s t. s < t); inside = All-nil (λ s. s < 0); each = All-nil (HasBits bits rows); rest = λ s less. absurd (omega (arith, less)) }
places_to bits rows (suc n) within =
    let d : Row = merge_rows [] in
    let inside : n < length rows = omega (arith, within) in
    let before = places_to bits rows n (omega (arith, within)) in
    let is : (b : Bool) → ((get_or rows n d).route.bits == bits) ≡ b → places_of bits 0 (take (n + 1) rows) ≡ places_of bits 0 (take n rows) ++ cond b (n ∷ []) [] =
    λ b test. places_of-next bits n rows d inside ∙ ap (λ c. places_of bits 0 (take n rows) ++ cond c (n ∷ []) []) test in
    subst (λ m. ArePlaces bits rows m (places_of bits 0 (take m rows))) (add-one n) (elim (eqb_tells (get_or rows n d).route.bits bits) [
      | inl same ↦
          subst (ArePlaces bits rows (n + 1)) (sym (is true same.0))
          (those_more (HasBits bits rows) (LacksBits bits rows) n (places_of bits 0 (take n rows)) before (inside, λ e. ap (λ (r : Row). r.route.bits) (get_or_default rows n e d inside) ∙ same.1))
      | inr other ↦
          subst (ArePlaces bits rows (n + 1)) (sym (is false other.0 ∙ append-nil (places_of bits 0 (take n rows))))
          (those_next (HasBits bits rows) (LacksBits bits rows) n (places_of bits 0 (take n rows)) before
          (λ low e equal. other.1 (ap (λ (r : Row). r.route.bits) (get_or_default rows n d e inside) ∙ equal)))
    ])

module _ (bits : ℕ) (rows : List Row) where
  pub are_places : ArePlaces bits rows (length rows) (places_of bits 0 rows)
  are_places = subst (λ l. ArePlaces bits rows (length rows) (places_of bits 0 l)) (take_all (length rows) rows (omega arith)) (places_to bits rows (length rows) (omega arith))

  -- a list of all of them is that of the definition
  pub places_only : (n : ℕ) (places : List ℕ) → length rows ≤ n → ArePlaces bits rows n places → places ≡ places_of bits 0 rows
  places_only n places all found =
      those_one (HasBits bits rows) (LacksBits bits rows) (λ s has lacks. lacks has.0 (merge_rows []) (has.1 (merge_rows []))) n places (places_of bits 0 rows) found
      (those_stay (HasBits bits rows) (LacksBits bits rows) (length rows) (places_of bits 0 rows) are_places n all (λ s from less low e same. omega (arith, from, low)))

  -- they are places of one route
  pub places_of-one_route : IsOneRoute rows (places_of bits 0 rows)
  places_of-one_route = record {
    ascending = are_places.ascending;
    in_range = are_places.inside;
    one_route = λ i j x less within d.
        let places = places_of bits 0 rows in
        same_route (get_or rows (get_or places i x) d).route (get_or rows (get_or places j x) d).route
        ((are_places.each i x (omega (arith, less, within))).1 d ∙ sym ((are_places.each j x within).1 d));
  }

  -- a route stands in the table, or has no places
  pub route_cases : ((s : ℕ) × (s < length rows) × (HasBits bits rows s)) ⊎ (places_of bits 0 rows ≡ [])
  route_cases = those_case (HasBits bits rows) (LacksBits bits rows) (length rows) (places_of bits 0 rows) are_places

-- ---- pairs

pub pair_order : (rows : List Row) (i j : ℕ) → IsLegalPair rows i j → i < j
pair_order rows i j pair = pair.set.set.ascending 0 1 0 (omega arith) (omega arith)

pub pair_inside : (rows : List Row) (i j : ℕ) → IsLegalPair rows i j → j < length rows
pair_inside rows i j pair = pair.set.set.in_range 1 0 (omega arith)

pub pair_bits : (rows : List Row) (i j : ℕ) → IsLegalPair rows i j → (d : Row) → (get_or rows i d).route.bits ≡ (get_or rows j d).route.bits
pair_bits rows i j pair d = ap (λ (r : Route). r.bits) (pair.set.set.one_route 0 1 0 (omega arith) (omega arith) d)

pub pair_made : (rows : List Row) (i j : ℕ) → i < j → j < length rows → ((d : Row) → (get_or rows j d).route.bits ≡ (get_or rows i d).route.bits) → IsMergeSet rows (i ∷ j ∷ [])
pair_made rows i j less within equal = pair_set rows i j less within (λ d. same_route (get_or rows i d).route (get_or rows j d).route (sym (equal d)))

pub first_found : (rows : List Row) (set : List ℕ) (i j : ℕ) → set ≡ i ∷ j ∷ [] → ((a : ℕ) → a < i → (b : ℕ) → IsLegalPair rows a b → ⊥) → IsFirstPartner rows i j → IsFirstLegalPair rows set
first_found rows set i j is none partner = record {
  i = i;
  j = j;
  pair = is;
  legal = partner.legal;
  before = λ a b less other. elim less [ inl first ↦ none a first b other | inr here ↦ partner.before b here.1 (subst (λ n. IsLegalPair rows n b) here.0 other) ];
}

-- ---- links

pub link_next : (rows : List Row) (nexts : List ℕ) → AreNexts rows nexts → (k x : ℕ) → k < length rows → x ≡ get_or nexts k x → IsNextOfRoute rows k x
link_next rows nexts links k x inside is = subst (IsNextOfRoute rows k) (get_or_default nexts k 0 x (omega (arith, links.one_each, inside)) ∙ sym is) (links.next k inside)

-- one row of the route more, and then on to the next
pub places_next : (rows : List Row) (bits place x : ℕ) (old new : List ℕ) → place < length rows → ((e : Row) → (get_or rows place e).route.bits ≡ bits) → IsNextOfRoute rows place x
    → ArePlaces bits rows place old → new ≡ old ++ place ∷ [] → ArePlaces bits rows x new
places_next rows bits place x old new inside same next before now =
    let P = HasBits bits rows in
    let Q = LacksBits bits rows in
    subst (ArePlaces bits rows x) (sym now) (those_stay P Q (place + 1) (old ++ place ∷ []) (those_more P Q place old before (inside, same)) x (omega (arith, next.behind))
    (λ s from less low e equal. next.between s e (omega (arith, from)) less low (equal ∙ sym (same e))))
