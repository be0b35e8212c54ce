-- Pairs that were tried stay illegal until one of their rows loses a row behind it.
use Rattle.cover_merge.proofs.Common.{All, AreNewerOf, AreNoLater, AreTried, AreTriedUpTo, Bool, IsEachOnce, IsLegalPair, IsMergeSet, IsNextSince, IsOrdered, IsTriedNow, List, Row, Times, [], after}
use Rattle.cover_merge.proofs.Common.{ap, arith, cases_Bool, cases_eq, cases_order, get_or, get_or-set_other, get_or_default, has_row, inl, inr, length, length-set, merge_rows, merged_row}
use Rattle.cover_merge.proofs.Common.{place_of_route, refl, rules, set, subst, suc, sym, true, ℕ, ◌-◌, ◌<◌, ◌∙◌, ◌≡◌, ◌≢◌, ◌≤◌}
use Rattle.cover_merge.proofs.{ChooseLemmas.pair_bits, ChooseLemmas.pair_inside, ChooseLemmas.pair_order, ChooseLemmas.ArePlaces, Positions.has-place, Lists.written_at, KeptLemmasMoved.merged_at}
use Rattle.cover_merge.proofs.KeptLemmasMoved.{merged_get, moved, moved_get}

-- ---- the times of one row in place of others

-- a mark changes no time of a change
mark_keeps : (now : ℕ) (gs : List Times) (s : ℕ) (g old : Times) → s < length gs → old ≡ get_or gs s old → IsTriedNow now old g
    → (b : ℕ) (e : Times) → (get_or (set gs s g) b e).changed ≡ (get_or gs b e).changed
mark_keeps now gs s g old inside is_old mark = λ b e.
    written_at (λ n (x : Times). x.changed ≡ (get_or gs n e).changed) gs s g e inside (mark.changed ∙ ap (λ (x : Times). x.changed) (is_old ∙ get_or_default gs s old e inside)) (λ n apart. refl) b

-- that of a row that is no legal pair with a later one
pub marked_put : (now : ℕ) (rows : List Row) (gs : List Times) (s : ℕ) (g : Times) → s < length gs → AreTriedUpTo now rows gs → (old : Times) → old ≡ get_or gs s old → IsTriedNow now old g
    → ((b : ℕ) → IsLegalPair rows s b → ⊥) → AreTriedUpTo now rows (set gs s g)
marked_put now rows gs s g inside marks old is_old mark none = record {
  tried = λ i j e less within told pair. elim (cases_eq i s) [
    | inl same ↦ none j (subst (λ n. IsLegalPair rows n j) same pair)
    | inr other ↦ grind (arith, length-set gs s g, mark_keeps now gs s g old inside is_old mark j e, get_or-set_other gs s i g e other)
  ];
  bound = search (rules, written_at, get_or_default, length-set);
}

-- the time of a route, and those of a row of it, are put
module _ (routes latest : List ℕ) (rows : List Row) (gs : List Times) (now : ℕ) (bounds : All (λ (g : Times). (g.tried ≤ now) × (g.changed ≤ now)) gs) where
  pub times_no_later : (s : ℕ) (g : Times) → s < length gs → ((d : Row) → g.changed ≤ get_or latest (place_of_route routes (get_or rows s d).route.bits) 0) → AreNoLater routes latest rows gs → AreNoLater routes latest rows (set gs s g)
  times_no_later s g inside own all k d e within =
      written_at (λ n (x : Times). n < length gs → x.changed ≤ get_or latest (place_of_route routes (get_or rows n d).route.bits) 0) gs s g e inside (λ low. own d) (λ n other low. all n d e low) k
      (omega (arith, length-set gs s g, within))

-- ---- the times of all rows

pub marked_later : (now : ℕ) (rows : List Row) (gs : List Times) (then : ℕ) → now ≤ then → AreTriedUpTo now rows gs → AreTriedUpTo then rows gs
marked_later now rows gs then le marks = grind arith

-- ---- the table after a merge

module _ (rows : List Row) (places : List ℕ) (ordered : IsOrdered rows) (merge : IsMergeSet rows places) where
  -- what holds of the rows of the table after the merge held of all rows, where it follows of the members
  pub all_before : (P : Row → Type 0) → (P (merged_row rows places) → (k : ℕ) (d : Row) → has_row places k ≡ true → P (get_or rows k d)) → All P (after rows places) → All P rows
  all_before P members all k d within = elim (cases_Bool (has_row places k)) [
    | inl found ↦ let at = merged_get rows places ordered merge.set.in_range d in members (subst P at.1 (all (merged_at rows places) d at.0)) k d found
    | inr out ↦ let at = moved_get rows places ordered merge.set.in_range k d within out in subst P at.1 (all (moved rows places k) d at.0)
  ]

-- ---- the rows that changed since a row was tried

-- the next of a row's changes, which is of the row's route
pub newer_next : (rows : List Row) (gs : List Times) (newer : List ℕ) (k x time : ℕ) (d : Row) (z : Times) → AreNewerOf (get_or rows k d).route.bits (suc k) rows gs newer → x < length rows → IsNextSince rows gs k time x
    → IsNextSince rows gs x (suc (get_or gs x z).changed) (get_or newer x 0)
newer_next rows gs newer k x time d z newer_are inside old = newer_are x d z old.behind inside (old.same d inside)

pub since_turn : (rows : List Row) (gs : List Times) (newer : List ℕ) (k x y time h : ℕ) (d : Row) (z : Times) → AreNewerOf (get_or rows k d).route.bits (suc k) rows gs newer → x < length rows → IsNextSince rows gs k (suc time) x
    → ((e : Times) → (get_or gs x e).changed ≡ h) → h ≤ time → y ≡ get_or newer x 0 → IsNextSince rows gs k (suc time) y
since_turn rows gs newer k x y time h d z newer_are inside old is_h le is = grind (arith, get_or gs x z, newer_next rows gs newer k x (suc time) d z newer_are inside old, cases_order, get_or)

-- each of the places of a route, from the one of this number on, has its next one that changed later
abbrev pub AreNewerAt : ℕ → List ℕ → List Row → List Times → List ℕ → Type 0
AreNewerAt n places rows gs newer = (m : ℕ) (e : Times) → n ≤ m → m < length places → IsNextSince rows gs (get_or places m 0) (suc (get_or gs (get_or places m 0) e).changed) (get_or newer (get_or places m 0) 0)

module _ (bits : ℕ) (rows : List Row) (places : List ℕ) (are : ArePlaces bits rows (length rows) places) (gs : List Times) where
  listed : (j : ℕ) (d : Row) → j < length rows → (get_or rows j d).route.bits ≡ bits → (m : ℕ) × (m < length places) × (get_or places m 0 ≡ j)
  listed j d within same = elim (are.rest j within) [ inl lacks ↦ absurd (lacks within d same) | inr found ↦ has-place places j found ]

  newer_row : (n : ℕ) (newer : List ℕ) → AreNewerAt n places rows gs newer → (j m : ℕ) (e : Times) → n ≤ m → m < length places → get_or places m 0 ≡ j → IsNextSince rows gs j (suc (get_or gs j e).changed) (get_or newer j 0)
  newer_row n newer done j m e from within at = subst (λ i. IsNextSince rows gs i (suc (get_or gs i e).changed) (get_or newer i 0)) at (done m e from within)

  -- so have all rows of the route
  pub newer_all : (newer : List ℕ) → AreNewerAt 0 places rows gs newer → AreNewerOf bits 0 rows gs newer
  newer_all newer done j d e from within same = let at = listed j d within same in newer_row 0 newer done j at.0 e (omega arith) at.1 at.2

  -- and those behind a place
  pub newer_behind : (n k : ℕ) (newer : List ℕ) → n < length places → get_or places n 0 ≡ k → AreNewerAt (suc n) places rows gs newer → AreNewerOf bits (suc k) rows gs newer
  newer_behind n k newer inside is done j d e from within same =
      let at = listed j d within same in newer_row (suc n) newer done j at.0 e (elim (cases_order at.0 n) [
        | inl here ↦ absurd (omega (arith, from, is, at.2, ap (λ i. get_or places i 0) here))
        | inr (inl before) ↦ absurd (omega (arith, from, is, at.2, are.ascending at.0 n 0 before inside))
        | inr (inr behind) ↦ behind
      ]) at.1 at.2

  -- one place more with the next that changed later
  pub newer_more : (now new : List ℕ) (n k v : ℕ) (was : Times) → length now ≡ length rows → length gs ≡ length rows → n < length places → get_or places n 0 ≡ k → IsNextSince rows gs k (suc (get_or gs k was).changed) v → new ≡ set now k v
      → AreNewerAt (suc n) places rows gs now → AreNewerAt n places rows gs new
  newer_more now new n k v was all many inside is next is_new done m e from within =
      let low : k < length now = omega (arith, all, is, are.inside n 0 inside) in
      let later : get_or places m 0 ≢ k → n < m = grind (arith, cases_order m n, get_or) in
      subst (λ l. IsNextSince rows gs (get_or places m 0) (suc (get_or gs (get_or places m 0) e).changed) (get_or l (get_or places m 0) 0)) (sym is_new)
      (written_at (λ j x. get_or places m 0 ≡ j → IsNextSince rows gs j (suc (get_or gs j e).changed) x) now k v 0 low
      (λ at. subst (λ t. IsNextSince rows gs k (suc t) v) (ap (λ (x : Times). x.changed) (get_or_default gs k was e (omega (arith, many, is, are.inside n 0 inside)))) next)
      (λ j apart at. newer_row (suc n) now done j m e (later (λ same. apart (sym at ∙ same))) within at) (get_or places m 0) refl)

-- what stands at the rows of other routes stays
pub newer_others : (bits : ℕ) (rows : List Row) (now new : List ℕ) (k v : ℕ) → ((d : Row) → (get_or rows k d).route.bits ≡ bits) → new ≡ set now k v → (j : ℕ) (d : Row) → (get_or rows j d).route.bits ≢ bits → get_or new j 0 ≡ get_or now j 0
newer_others bits rows now new k v of is j d other = ap (λ l. get_or l j 0) is ∙ get_or-set_other now k j v 0 (λ at. other (ap (λ i. (get_or rows i d).route.bits) at ∙ of d))

-- one route more is ready, and the others stay so
pub newer_ready : (routes : List ℕ) (rows : List Row) (gs : List Times) (ready : List Bool) (now new : List ℕ) (c : ℕ) → IsEachOnce routes → length ready ≡ length routes → c < length routes
    → AreNewerOf (get_or routes c 0) 0 rows gs new → ((j : ℕ) (d : Row) → j < length rows → (get_or rows j d).route.bits ≢ get_or routes c 0 → get_or new j 0 ≡ get_or now j 0)
    → ((k : ℕ) (e : Bool) → k < length routes → get_or ready k e ≡ true → AreNewerOf (get_or routes k 0) 0 rows gs now)
    → (k : ℕ) (e : Bool) → k < length routes → get_or (set ready c true) k e ≡ true → AreNewerOf (get_or routes k 0) 0 rows gs new
newer_ready routes rows gs ready now new c once all low own others before k e =
    written_at (λ n b. n < length routes → b ≡ true → AreNewerOf (get_or routes n 0) 0 rows gs new) ready c true e (omega (arith, all, low)) (λ within is. own)
    (λ n other within is j d f from in_rows bits. subst (IsNextSince rows gs j (suc (get_or gs j f).changed))
    (sym (others j d in_rows (λ equal. other (sym (once n within) ∙ ap (place_of_route routes) (sym bits ∙ equal) ∙ once c low)))) (before n e within is j d f from in_rows bits)) k

-- a mark changes no time
pub newer_kept : (now : ℕ) (bits : ℕ) (rows : List Row) (gs new : List Times) (newer : List ℕ) (s : ℕ) (g old : Times) → s < length gs → old ≡ get_or gs s old → new ≡ set gs s g → IsTriedNow now old g
    → AreNewerOf bits 0 rows gs newer → AreNewerOf bits 0 rows new newer
newer_kept now bits rows gs new newer s g old inside is_old is mark each k d e from within same =
    let next = each k d e from within same in record {
      behind = next.behind;
      same = next.same;
      between = λ j d f after to in_rows bits. omega (arith, kept_at j f, kept_at k e, next.between j d f after to in_rows bits);
    }
  where
    kept_at : (b : ℕ) (e : Times) → (get_or new b e).changed ≡ (get_or gs b e).changed
    kept_at b e = ap (λ l. (get_or l b e).changed) is ∙ mark_keeps now gs s g old inside is_old mark b e

-- a row is no legal pair with one that did not change since it was tried
pub skipped_none : (rows : List Row) (gs : List Times) (i k x : ℕ) (was : Times) → length gs ≡ length rows → AreTried rows gs → i ≤ k → ((d : Row) → k < length rows → (get_or rows k d).route.bits ≡ (get_or rows i d).route.bits) → IsNextSince rows gs k (get_or gs i was).tried x
    → (b : ℕ) → k < b → b < x → IsLegalPair rows i b → ⊥
skipped_none rows gs i k x was same tried le route next b from to pair =
    let d : Row = merge_rows [] in
    let within : b < length rows = pair_inside rows i b pair in
    let bits : (get_or rows b d).route.bits ≡ (get_or rows k d).route.bits = sym (pair_bits rows i b pair d) ∙ sym (route d (omega (arith, from, within))) in
    tried i b was (omega (arith, le, from)) (omega (arith, same, within)) (next.between b d was from to within bits) pair

-- and with none, where no row of its route did
pub settled_none : (routes latest : List ℕ) (rows : List Row) (gs : List Times) (i : ℕ) → length gs ≡ length rows → AreTried rows gs → AreNoLater routes latest rows gs
    → ((d : Row) (e : Times) → get_or latest (place_of_route routes (get_or rows i d).route.bits) 0 < (get_or gs i e).tried) → (b : ℕ) → IsLegalPair rows i b → ⊥
settled_none routes latest rows gs i same tried none_later low b pair =
    let d : Row = merge_rows [] in
    let z : Times = record { tried = 0; changed = 0 } in
    let within : b < length gs = omega (arith, same, pair_inside rows i b pair) in
    tried i b z (pair_order rows i b pair) within (omega (arith, none_later b d z within, low d z, ap (λ n. get_or latest (place_of_route routes n) 0) (pair_bits rows i b pair d))) pair

-- what holds before a place, there, and behind it
pub each_on : (P : ℕ → Type 0) (i j x : ℕ) → ((b : ℕ) → i < b → b < j → P b) → P j → ((b : ℕ) → j < b → b < x → P b) → (b : ℕ) → i < b → b < x → P b
each_on P i j x before here after b from to = grind (arith, cases_order b j)
