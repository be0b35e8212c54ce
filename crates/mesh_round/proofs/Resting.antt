-- A mesh without a copy in a queue or unsent is at rest.
use Rattle.mesh_round.proofs.Common.{All, All-cons, All-nil, HasNoHand, HasSome, IsAtRest, List, McCopy, State, [], and_parts, arith, cases_lt, eqb-true, get_or_past, has_none, holds_none, length}
use Rattle.mesh_round.proofs.Common.{list_all, refl, slice_index_or, true, ℕ, ◌∷◌, ◌≡◌}

no_copies : (q : List McCopy) → holds_none q ≡ true → q ≡ []
no_copies [] is = refl
no_copies (k ∷ ks) is = let long = eqb-true (length (k ∷ ks)) 0 is in absurd (omega (arith, long))

all_empty : (qs : List (List McCopy)) → list_all holds_none qs ≡ true → All (λ q. q ≡ []) qs
all_empty [] is = All-nil (λ q. q ≡ [])
all_empty (q ∷ qs) is =
    let parts = and_parts (holds_none q) (list_all holds_none qs) is in
    All-cons (λ q'. q' ≡ []) q qs (no_copies q parts.0) (all_empty qs parts.1)

pub rests : (s : State) → has_none s ≡ true → HasNoHand s → IsAtRest s
rests s is no_hand = grind (arith, and_parts, all_empty)

-- Where each list is empty, no item stands at a place.
all_none : (qs : List (List McCopy)) (i : ℕ) → All (λ q. q ≡ []) qs → slice_index_or qs i [] ≡ []
all_none qs i all = grind (arith, cases_lt i (length qs), get_or_past qs i)

-- In a mesh that has none there is none.
pub none_left : (s : State) → has_none s ≡ true → HasNoHand s → HasSome s → ⊥
none_left s is no_hand its_3 = grind (arith, all_none, rests)
