-- Vertices have at most one placement.
use Rattle.place_fit.proofs.Common.{All, All-head, All-tail, AreFirstMemories, AreFirstSpots, Chip, Description, EachFollows, Edge, FindsNoRoom, HasDeviceRoom, HasNoRoom, HasRoom, IsChipOrder}
use Rattle.place_fit.proofs.Common.{IsCoreFor, IsFirstChip, IsPlacement, IsSpotFor, List, MatchOption, None, Option, Some, Spot, Vertex, [], ap, arith, cases_lt, choices, determined_begins}
use Rattle.place_fit.proofs.Common.{device_spot, get_or_from_slice_get, inl, inr, length, memory_of, same_number_lists, same_spot, slice_get, slice_get_cases, slice_get_there, slice_get_within, subst}
use Rattle.place_fit.proofs.Common.{sym, take, take_all, ℕ, ◌∙◌, ◌∷◌, ◌≡◌, ◌≤◌}

one_order : (m : Description) (xs ys : List Chip) → IsChipOrder m xs → IsChipOrder m ys → xs ≡ ys
one_order m xs ys a b = grind arith

one_first : (P : Chip → Type 0) (xs : List Chip) (c d : Chip) → IsFirstChip P xs c → IsFirstChip P xs d → c ≡ d
one_first P [] c d a b = absurd a
one_first P (x ∷ xs) c d a b =
    elim a [
      | inl here ↦ elim b [ inl there ↦ sym here.1 ∙ there.1 | inr later ↦ absurd (later.0 here.0) ]
      | inr further ↦ elim b [ inl there ↦ absurd (further.0 there.0) | inr later ↦ one_first P xs c d further.1 later.1 ]
    ]

none_first : (P : Chip → Type 0) (xs : List Chip) (c : Chip) → IsFirstChip P xs c → All (λ x. P x → ⊥) xs → ⊥
none_first P [] c a none = a
none_first P (x ∷ xs) c a none =
    elim a [
      | inl here ↦ All-head (λ z. P z → ⊥) x xs none here.0
      | inr later ↦ none_first P xs c later.1 (All-tail (λ z. P z → ⊥) x xs none)
    ]

one_core : (m : Description) (order : List Chip) (vs : List Vertex) (ss : List Spot) (v : Vertex) (s t : Spot) → IsCoreFor m order vs ss v s → IsCoreFor m order vs ss v t → s ≡ t
one_core m order vs ss v s t a b = grind (arith, one_first (HasRoom m vs ss v) (choices order v.at) s.chip t.chip a.chip b.chip, same_spot)

one_spot : (m : Description) (order : List Chip) (vs : List Vertex) (ss : List Spot) (v : Vertex) (s t : Spot) → IsSpotFor m order vs ss v s → IsSpotFor m order vs ss v t → s ≡ t
one_spot m order vs ss v s t = grind (arith, one_core)

-- a vertex that has a spot finds room
spot_has_room : (m : Description) (order : List Chip) (vs : List Vertex) (ss : List Spot) (v : Vertex) (s : Spot) → IsSpotFor m order vs ss v s → FindsNoRoom m order vs ss v → ⊥
spot_has_room m order vs ss v s = grind (arith, none_first)

module _ (m : Description) (order : List Chip) (vertices : List Vertex) where
  -- the spot at a place is that of the vertex there, where these stand before it
  abbrev Follows : List Spot → ℕ → Spot → Type 0
  Follows before n s = (v : Vertex) × (slice_get vertices n ≡ Some v) × IsSpotFor m order (take n vertices) before v s

  same_follower : (before : List Spot) (n : ℕ) (x y : Spot) → Follows before n x → Follows before n y → x ≡ y
  same_follower before n x y a b = grind (arith, one_spot)

  followed : (xs : List Spot) → AreFirstSpots m order vertices xs → EachFollows Follows same_follower xs
  followed xs first n x is = grind (arith, slice_get_there vertices n (omega (arith, slice_get_within xs n x is, first.few)), slice_get_within xs n x is)

  -- the shorter of two lists of first spots is the beginning of the longer
  begins : (xs ys : List Spot) → AreFirstSpots m order vertices xs → AreFirstSpots m order vertices ys → length xs ≤ length ys → take (length xs) ys ≡ xs
  begins xs ys a b le = determined_begins Follows same_follower xs ys (followed xs a) (followed ys b) le

-- where a vertex has no room, no list of first spots goes beyond
no_further : (m : Description) (order : List Chip) (vertices : List Vertex) (xs : List Spot) (i : ℕ) → IsChipOrder m order → AreFirstSpots m order vertices xs → HasNoRoom m vertices i → length xs ≤ i
no_further m order vertices xs i is_order first out =
    let orders = one_order m out.order order out.is_order is_order in
    elim (cases_lt i (length xs)) [
      | inl beyond ↦ elim (slice_get_cases xs i).1 [
        | inl (x, x_in, is_x, got_x) ↦ (
            let mine = first.each i out.vertex x out.is is_x in
            let before = subst (λ o. AreFirstSpots m o vertices out.spots) orders out.before in
            let same : take i xs ≡ out.spots = ap (λ n. take n xs) (sym out.here) ∙ begins m order vertices out.spots xs before first (omega (arith, out.here)) in
            let spot = subst (λ e. IsSpotFor m order (take i vertices) e out.vertex x) same mine in
            let none = subst (λ o. FindsNoRoom m o (take i vertices) out.spots out.vertex) orders out.none in
            absurd (spot_has_room m order (take i vertices) out.spots out.vertex x spot none)
            )
        | inr (past, none) ↦ absurd (omega arith)
      ]
      | inr within ↦ within
    ]

one_memory : (vertices : List Vertex) (spots : List Spot) (ms ns : List ℕ) → length spots ≡ length vertices → AreFirstMemories vertices spots ms → AreFirstMemories vertices spots ns → ms ≡ ns
one_memory vertices spots ms ns all a b =
    same_number_lists ms ns (a.one_each ∙ sym b.one_each) (λ k inside.
    elim (slice_get_cases spots k).1 [
      | inl (s, s_in, is_s, got_s) ↦ elim (slice_get_cases vertices k).1 [
        | inl (v, v_in, is_v, got_v) ↦ (
            let x = get_or_from_slice_get ms k (memory_of (take k vertices) (take k spots) v s) 0 (a.each k v s is_v is_s) in
            let y = get_or_from_slice_get ns k (memory_of (take k vertices) (take k spots) v s) 0 (b.each k v s is_v is_s) in
            x ∙ sym y
            )
        | inr (past, none) ↦ absurd (omega (arith, past, all, inside, a.one_each))
      ]
      | inr (past, none) ↦ absurd (omega (arith, past, inside, a.one_each))
    ])

pub one_placement : (m : Description) (vertices : List Vertex) (ss ts : List Spot) (ms ns : List ℕ) → IsPlacement m vertices ss ms → IsPlacement m vertices ts ns → (ss ≡ ts) × (ms ≡ ns)
one_placement m vertices ss ts ms ns a b =
    let first = subst (λ o. AreFirstSpots m o vertices ts) (one_order m b.order a.order b.is_order a.is_order) b.first in
    let spots : ss ≡ ts = sym (begins m a.order vertices ss ts a.first first (omega (arith, a.all, b.all))) ∙ take_all (length ss) ts (omega (arith, a.all, b.all)) in
    (spots, one_memory vertices ts ms ns b.all (subst (λ l. AreFirstMemories vertices l ms) spots a.memories) b.memories)

pub not_both : (m : Description) (vertices : List Vertex) (ss : List Spot) (ms : List ℕ) (i : ℕ) → IsPlacement m vertices ss ms → HasNoRoom m vertices i → ⊥
not_both m vertices ss ms i placed out = grind (arith, no_further m placed.order vertices ss i placed.is_order placed.first out, slice_get_within vertices i out.vertex out.is)

pub one_vertex : (m : Description) (vertices : List Vertex) (i j : ℕ) → HasNoRoom m vertices i → HasNoRoom m vertices j → i ≡ j
one_vertex m vertices i j a b = grind (arith, no_further m a.order vertices a.spots j a.is_order a.before b, no_further m b.order vertices b.spots i b.is_order b.before a)
