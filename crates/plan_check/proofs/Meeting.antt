-- Going over the rows of a chip until one meets a block, and what is amiss with the route that it gives.
use Rattle.plan_check.proofs.Common.{Block, Bool, Entry, Flaw, IsAmiss, IsFirstToMeet, IsFlawBy, IsTrue, LiesInside, List, Meets, None, NoneMeets, Option, Port, Route, Some, Split, Wrong, ap, arith}
use Rattle.plan_check.proofs.Common.{cases_lt, default_route, fails, false, get_or, inl, inr, length, refl, slice_get, slice_get-get_or, slice_get_within, subst, sym, true, ℕ, ◌+◌, ◌<◌, ◌↔◌, ◌∙◌, ◌≡◌}
use Rattle.plan_check.proofs.Common.{◌≤◌}

-- no row before place i meets the block
abbrev pub NoneBefore : Block → List Entry → ℕ → Type 0
NoneBefore b rows i = (k : ℕ) (x : Entry) → k < i → slice_get rows k ≡ Some x → Meets b x → ⊥

module _ (b : Block) (rows : List Entry) (i : ℕ) (e : Entry) (t : Bool) (below : i < length rows) (read : e ≡ get_or rows i e) (tells : (IsTrue t) ↔ Meets b e) where
  here : slice_get rows i ≡ Some e
  here = slice_get-get_or rows i e below ∙ ap Some (sym read)

  pub first_here : t ≡ true → NoneBefore b rows i → (x : Entry) × IsFirstToMeet b rows i x
  first_here came before = (e, record { there = here; meets = tells.0 came; first = before })

  pub none_more : t ≡ false → NoneBefore b rows i → NoneBefore b rows (i + 1)
  none_more came before k x less at met = grind (arith, cases_lt k i, here, fails)

pub none_at_all : (b : Block) (rows : List Entry) (i : ℕ) → length rows ≤ i → NoneBefore b rows i → NoneMeets b rows
none_at_all b rows i past before k d below met = before k (get_or rows k d) (omega (arith, below, past)) (slice_get-get_or rows k d below) met

-- ---- what is amiss

-- no row meets the block
pub amiss_by_default : (b : Block) (rows : List Entry) (port : Port) (wanted got : Route) (o : Option Flaw) → NoneMeets b rows → got ≡ default_route port →
    IsFlawBy got wanted o → IsAmiss b rows port wanted o
amiss_by_default b rows port wanted got None none is by = inr (none, by ∙ is)
amiss_by_default b rows port wanted got (Some Wrong) none is by = (got, inr (none, is), by)
amiss_by_default b rows port wanted got (Some (Split place)) none is by = absurd by

-- the block lies inside the first row that meets it
pub amiss_by_row : (b : Block) (rows : List Entry) (port : Port) (wanted : Route) (place : ℕ) (x e : Entry) (t : Bool) (o : Option Flaw) →
    IsFirstToMeet b rows place x → e ≡ get_or rows place e → (IsTrue t) ↔ LiesInside b e → t ≡ true → IsFlawBy e.route wanted o → IsAmiss b rows port wanted o
amiss_by_row b rows port wanted place x e t o first read tells came by = of o by
  where
    found : Some x ≡ Some e
    found = sym first.there ∙ (slice_get-get_or rows place e (slice_get_within rows place x first.there) ∙ ap Some (sym read))

    mine : IsFirstToMeet b rows place e
    mine =
        let same : Some x ≡ Some e = found in
        let one : x ≡ e = cc in
        subst (IsFirstToMeet b rows place) one first

    of : (p : Option Flaw) → IsFlawBy e.route wanted p → IsAmiss b rows port wanted p
    of None same = inl (place, e, mine, tells.0 came, same)
    of (Some Wrong) other = (e.route, inl (place, e, mine, tells.0 came, refl), other)
    of (Some (Split p)) never = absurd never

-- it does not lie inside it
pub amiss_by_split : (b : Block) (rows : List Entry) (place : ℕ) (x e : Entry) (t : Bool) →
    IsFirstToMeet b rows place x → e ≡ get_or rows place e → (IsTrue t) ↔ LiesInside b e → t ≡ false →
    (y : Entry) × IsFirstToMeet b rows place y × (LiesInside b y → ⊥)
amiss_by_split b rows place x e t first read tells came =
    let found : Some x ≡ Some e = sym first.there ∙ (slice_get-get_or rows place e (slice_get_within rows place x first.there) ∙ ap Some (sym read)) in
    let one : x ≡ e = cc in
    (e, subst (IsFirstToMeet b rows place) one first, fails (LiesInside b e) t tells came)
