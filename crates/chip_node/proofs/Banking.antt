-- A bank's turn: one unsent copy is offered, and one look goes round the queues of its vertices.
use Rattle.chip_node.proofs.Common.{All-weaker, BankActs, BankMoves, CannotGet, Contains, CoreBank, GetsOne, HalfActs, Holdings, IsIdleAt, IsNone, IsReadyBank, IsUnsentAt, Item, Link, List, McCopy}
use Rattle.chip_node.proofs.Common.{Moved, None, Nothing, Option, SendsOne, Some, Stays, Turn, Waits, [], ap, append-nil, arith, get_or, get_or_default, length, option_to_list, refl, slice_get, sym}
use Rattle.chip_node.proofs.Common.{turn_of_both, ℕ, ◌++◌, ◌+◌, ◌<◌, ◌∙◌, ◌∷◌, ◌≡◌, ◌≢◌}
use Rattle.chip_node.proofs.{Flows.goes_on, Flows.goes_stays, Flows.stays_goes, Stays.idle_before, Stays.stays_on}

-- ---- unsent copies

first_item : (xs : List McCopy) (k : McCopy) → Some k ≡ slice_get xs 0 → (rest : List McCopy) × (xs ≡ k ∷ rest)
first_item [] k e = cc
first_item (x ∷ xs) k e = (xs, (let same : k ≡ x = cc in ap (λ z. z ∷ xs) (sym same)))

-- a vertex of the bank whose first unsent copy was read
pub unsent_first : (b : CoreBank) (h : Holdings) (v : ℕ) (k : McCopy) (u xs : List McCopy) → Contains b.vertices.items v → v < length h.unsent.items → u ≡ get_or h.unsent.items v u →
    xs ≡ u → Some k ≡ slice_get xs 0 → IsUnsentAt b h v k
unsent_first b h v k u xs has below read same first = grind (arith, first_item xs k first, get_or_default h.unsent.items v)

-- what is left where the first copy is taken away
pub popped_rest : (old new rest : List McCopy) (k : McCopy) (r : Option McCopy) → old ≡ k ∷ rest → old ≡ option_to_list r ++ new → (IsNone r → old ≡ []) → new ≡ rest
popped_rest old new rest k r is items none = grind arith

-- ---- the two halves of a turn

some_more : (x : Item) (xs ys : List Item) → xs ≡ x ∷ [] → xs ++ ys ≢ []
some_more x xs ys is e = (let none : x ∷ ys ≡ [] = ap (λ l. l ++ ys) (sym is) ∙ e in cc)

sends_only : (b : CoreBank) (xs : List Item) → SendsOne b xs → BankMoves b xs
sends_only b xs one = grind (arith, append-nil xs)

gets_only : (b : CoreBank) (xs : List Item) → GetsOne b xs → BankMoves b xs
gets_only b xs one = grind arith

pub halves_act : (cap patience : ℕ) (k : CoreBank) (a b c : Holdings) (s t : Turn) → HalfActs cap patience (SendsOne k) a s b → HalfActs cap patience (GetsOne k) b t c →
    BankActs cap patience k a (turn_of_both s t) c
halves_act cap patience k a b c Moved Moved (xs, one, goes) (ys, other, then) = grind (arith, goes_on cap patience a b c xs ys goes then, some_more)
halves_act cap patience k a b c Moved Nothing (xs, one, goes) then = (xs, sends_only k xs one, goes_stays cap patience a b c xs goes then)
halves_act cap patience k a b c Moved Waits (xs, one, goes) then = (xs, sends_only k xs one, goes_stays cap patience a b c xs goes then)
halves_act cap patience k a b c Nothing Moved stays (ys, other, then) = (ys, gets_only k ys other, stays_goes cap patience a b c ys stays then)
halves_act cap patience k a b c Nothing Nothing stays then = stays_on a b c stays then
halves_act cap patience k a b c Nothing Waits stays then = stays_on a b c stays then
halves_act cap patience k a b c Waits Moved stays (ys, other, then) = (ys, gets_only k ys other, stays_goes cap patience a b c ys stays then)
halves_act cap patience k a b c Waits Nothing stays then = stays_on a b c stays then
halves_act cap patience k a b c Waits Waits stays then = stays_on a b c stays then

-- where a half moved nothing, nothing was done
pub half_stays : (cap patience : ℕ) (One : List Item → Type 0) (a b : Holdings) (s : Turn) → s ≢ Moved → HalfActs cap patience One a s b → Stays a b
half_stays cap patience One a b s none h = grind arith

-- where a turn moved nothing, neither half did
pub first_none : (s t : Turn) → turn_of_both s t ≢ Moved → s ≢ Moved
first_none s t none = grind arith

pub second_none : (s t : Turn) → turn_of_both s t ≢ Moved → t ≢ Moved
second_none s t none = grind arith

-- what cannot be got cannot have been got before
pub cannot_get_before : (k : CoreBank) (a b : Holdings) → Stays a b → CannotGet k b → CannotGet k a
cannot_get_before k a b stays none = grind (arith, All-weaker, idle_before)

-- ---- the vertex at a place of the bank

pub vertex_there : (links : List Link) (k : CoreBank) (h : Holdings) (at v : ℕ) → IsReadyBank links k h → at < length k.vertices.items → v ≡ get_or k.vertices.items at v →
    k.cores + v < length h.ends.items
vertex_there links k h at v ready below read = grind arith

-- its queue is empty, and was before
pub vertex_idle : (k : CoreBank) (a b : Holdings) (at v : ℕ) → Stays a b → at < length k.vertices.items → v ≡ get_or k.vertices.items at v → IsIdleAt b.ends.items (k.cores + v)
    → (d : ℕ) → IsIdleAt a.ends.items (k.cores + get_or k.vertices.items at d)
vertex_idle k a b at v stays below read idle d = grind (arith, get_or_default k.vertices.items at v d below, idle_before a b (k.cores + v) stays idle)
