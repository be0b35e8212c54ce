-- Each net of a plan has one claim of keys, and so one block.
use Rattle.app_loads.proofs.Common.{AppNet, AppPlan, Block, Bool, Claim, Description, IsBlockOf, List, LoadRefusal, Option, Range, Some, [], among_at, ap, arith, cases_order, claims_of, count_by}
use Rattle.app_loads.proofs.Common.{count_by-append, count_by-cons, count_some, counts_one, eq-eqb, false, fixed_claim, flat_map, gathered, if◌then◌else◌, inl, inr, key_claim, le-leb, leb, lt-leb}
use Rattle.app_loads.proofs.Common.{ne_eqb, refl, same_Some, same_block, slice_get, suc, sym, true, zero, ℕ, ◌+◌, ◌==◌, ◌∙◌, ◌∷◌, ◌≡◌, ◌≤◌}
use Rattle.app_loads.proofs.LeavingLists.{none_where, one_if, one_where}
use Rattle.app_loads.specs.declared.answers.LoadRefusal.TheVariants as refusals

-- whether a claim is for the keys of a net
abbrev names_net : ℕ → LoadRefusal → Bool
names_net n (refusals.KeysOut net) = net == n
names_net n refusal = false

module _ (n : ℕ) where
  abbrev is_for : Claim → Bool
  is_for claim = names_net n claim.refusal

  none_gathered : {X : Type 0} (f : ℕ → X → List Claim) → ((j : ℕ) (x : X) → count_by is_for (f j x) ≡ 0) → (i : ℕ) (xs : List X) → count_by is_for (gathered f i xs) ≡ 0
  none_gathered f none i [] = refl
  none_gathered f none i (x ∷ xs) = grind (arith, count_by-append is_for (f i x) (gathered f (i + 1) xs), none_gathered f none (i + 1) xs)

  none_mapped : {X : Type 0} (f : X → List Claim) → ((x : X) → count_by is_for (f x) ≡ 0) → (xs : List X) → count_by is_for (flat_map f xs) ≡ 0
  none_mapped f none [] = refl
  none_mapped f none (x ∷ xs) = grind (arith, count_by-append is_for (f x) (flat_map f xs), none_mapped f none xs)

  abbrev fixed : ℕ → List AppNet → List Claim
  fixed i nets = gathered (λ j (net : AppNet). fixed_claim j net.fixed) i nets

  abbrev keys : ℕ → List AppNet → List Claim
  keys i nets = gathered (λ j (net : AppNet). key_claim j net.keys net.fixed) i nets

  -- each net claims its own keys once
  its_own : (j k : ℕ) (o : Option Block) → count_by is_for (fixed_claim j o) + count_by is_for (key_claim j k o) ≡ (if j == n then 1 else 0)
  its_own j k o = grind (arith, count_by-cons)

  -- so nets from a number on claim those of this one at most once, and not where it is below
  at_most_one : (j : ℕ) (nets : List AppNet) → count_by is_for (fixed j nets) + count_by is_for (keys j nets) ≤ one_if (leb j n)
  at_most_one j [] = omega arith
  at_most_one j (net ∷ nets) =
      let own = its_own j net.keys net.fixed in
      let rest = at_most_one (j + 1) nets in
      let first = count_by-append is_for (fixed_claim j net.fixed) (fixed (j + 1) nets) in
      let second = count_by-append is_for (key_claim j net.keys net.fixed) (keys (j + 1) nets) in
      elim (cases_order j n) [
        | inl same ↦ grind (arith, one_if, none_where, lt-leb, one_where, eq-eqb, le-leb)
        | inr (inl less) ↦ grind (arith, one_if, one_where, le-leb, none_where, ne_eqb)
        | inr (inr more) ↦ grind (arith, one_if, none_where, lt-leb, ne_eqb)
      ]

  module _ (m : Description) (plan : AppPlan) where
    one_claim : count_by is_for (claims_of m plan) ≤ 1
    one_claim = grind (arith, count_by-append, count_by, none_gathered, none_mapped, at_most_one, one_where, le-leb, count_by-cons)

  -- places at which a claim for the net stands are one
  one_place : (claims : List Claim) → count_by is_for claims ≤ 1 → (i j : ℕ) (a b : Claim) → slice_get claims i ≡ Some a → slice_get claims j ≡ Some b → is_for a ≡ true → is_for b ≡ true → i ≡ j
  one_place [] few i j a b at also x y = cc
  one_place (c ∷ claims) few zero zero a b at also x y = refl
  one_place (c ∷ claims) few zero (suc j) a b at also x y =
      let first = counts_one (is_for c) (ap is_for (same_Some c a at) ∙ x) in
      absurd (omega (arith, few, first, count_some is_for b claims y (among_at claims j b also), count_by-cons is_for c claims))
  one_place (c ∷ claims) few (suc i) zero a b at also x y =
      let first = counts_one (is_for c) (ap is_for (same_Some c b also) ∙ y) in
      absurd (omega (arith, few, first, count_some is_for a claims x (among_at claims i a at), count_by-cons is_for c claims))
  one_place (c ∷ claims) few (suc i) (suc j) a b at also x y = grind (arith, one_place claims (omega (arith, few, count_by-cons is_for c claims)) i j a b at also x y, count_by-cons is_for c claims)

-- so a net's block is one
pub one_block : (m : Description) (plan : AppPlan) (ranges : List Range) (net : ℕ) (block other : Block) → IsBlockOf (claims_of m plan) ranges net block →
    IsBlockOf (claims_of m plan) ranges net other → block ≡ other
one_block m plan ranges net block other x y =
    let for : (c : Claim) → c.refusal ≡ refusals.KeysOut net → names_net net c.refusal ≡ true = λ c its. ap (names_net net) its ∙ eq-eqb net net refl in
    let at : x.at ≡ y.at = one_place net (claims_of m plan) (one_claim net m plan) x.at y.at x.claim y.claim x.is y.is (for x.claim x.its) (for y.claim y.its) in
    let range : x.range ≡ y.range = same_Some x.range y.range (sym x.got ∙ (ap (slice_get ranges) at ∙ y.got)) in
    let size : x.range.size ≡ y.range.size = ap (λ (r : Range). r.size) range in
    same_block block other (x.key ∙ (ap (λ (r : Range). r.place) range ∙ sym y.key)) (omega (arith, size, x.mask, y.mask))
