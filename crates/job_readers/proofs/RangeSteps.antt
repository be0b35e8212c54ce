-- Blocks that are ranges: when two share a key, and what their first keys by their last keys tell of one more.
use Rattle.job_readers.proofs.Common.{All-contains, All-each, All-push, AreRanges, Block, Contains, Contains-append_left, Contains-append_right, Contains-first, IsRange, List, None, Option, Some, []}
use Rattle.job_readers.proofs.Common.{agree_where_meet, and_high_mask, and_le_r, ap, arith, bit_and, cases_Bool, cases_eq, cases_lt, cases_order, eq-eqb, eqb-true, false, inl, inr, is_eq, is_gt}
use Rattle.job_readers.proofs.Common.{key_small, last_key_of, le-leb, list_any, list_any_at, list_any_none, lt-leb, meet_where_agree, nat_cmp, nat_le, pow_pos, range_keys, shares_key, shr_split}
use Rattle.job_readers.proofs.Common.{subst, sym, true, true≢false, ℕ, ◌%◌, ◌++◌, ◌+◌, ◌-◌, ◌<◌, ◌^◌, ◌↔◌, ◌∙◌, ◌∷◌, ◌≡◌, ◌≢◌, ◌≤◌}

-- the last key has 32 bits
pub last_small : (b : Block) → last_key_of b < 2 ^ 32
last_small b = grind (arith, and_le_r b.key b.mask)

-- ---- what an order of numbers says

pub is_not_above : (a b : ℕ) → a ≤ b → is_gt (nat_cmp a b) ≡ false
is_not_above a b le = grind (arith, cases_order a b)

pub is_other : (a b : ℕ) → b ≢ a → is_eq (nat_cmp a b) ≡ false
is_other a b other = grind (arith, cases_order a b)

-- ---- the keys of a range

module _ (b : Block) (range : IsRange b) where
  mask_is : 2 ^ 32 - 2 ^ range.0 ≡ b.mask
  mask_is = let sum = range.2 in omega (arith, sum)

  aligned : b.key % 2 ^ range.0 ≡ 0
  aligned = grind (arith, and_high_mask 32 range.0 range.1 b.key (key_small b), key_small b, mask_is, shr_split b.key range.0)

  behind_last : last_key_of b + 1 ≡ b.key + 2 ^ range.0
  behind_last = let sum = range.2 in omega (arith, sum, pow_pos range.0, b.small)

  keys_between : (k : ℕ) → k < 2 ^ 32 → (bit_and k b.mask ≡ b.key) ↔ ((b.key ≤ k) × (k < b.key + 2 ^ range.0))
  keys_between = subst (λ m. (k : ℕ) → k < 2 ^ 32 → (bit_and k m ≡ b.key) ↔ ((b.key ≤ k) × (k < b.key + 2 ^ range.0))) mask_is (range_keys range.0 b.key range.1 aligned (key_small b))

  -- a key of the block lies between its first and its last
  from_first : (k : ℕ) → k < 2 ^ 32 → bit_and k b.mask ≡ b.key → (b.key ≤ k) × (k ≤ last_key_of b)
  from_first k small is = let at = (keys_between k small).0 is in (at.0, omega (arith, at.1, behind_last))

  -- and each key between is one of the block's
  between : (k : ℕ) → b.key ≤ k → k ≤ last_key_of b → bit_and k b.mask ≡ b.key
  between k from to = (keys_between k (omega (arith, to, last_small b))).1 (from, omega (arith, to, behind_last))

-- ---- two ranges

module _ (a b : Block) (range_a : IsRange a) (range_b : IsRange b) where
  -- ranges that share a key overlap
  pub overlap : shares_key a b ≡ true → (a.key ≤ last_key_of b) × (b.key ≤ last_key_of a)
  overlap shared =
      let meet = meet_where_agree a b (eqb-true _ _ shared) in
      let in_a = from_first a range_a meet.key meet.small meet.first in
      let in_b = from_first b range_b meet.key meet.small meet.second in
      (omega (arith, in_a.0, in_b.1), omega (arith, in_b.0, in_a.1))

  share_at : (k : ℕ) → a.key ≤ k → k ≤ last_key_of a → b.key ≤ k → k ≤ last_key_of b → shares_key a b ≡ true
  share_at k from_a to_a from_b to_b =
      eq-eqb _ _ (agree_where_meet a b (record {
        key = k;
        small = omega (arith, to_a, last_small a);
        first = between a range_a k from_a to_a;
        second = between b range_b k from_b to_b;
      }))

  -- and ranges that overlap share the greater of their first keys
  pub share : a.key ≤ last_key_of b → b.key ≤ last_key_of a → shares_key a b ≡ true
  share a_first b_first = elim (cases_lt a.key b.key) [
    | inl below ↦ share_at b.key (omega (arith, below)) b_first (omega arith) (omega arith)
    | inr above ↦ share_at a.key (omega arith) (omega arith) above a_first
  ]

-- ---- what the range that ends next tells

module _ (blocks : List Block) (first_at : ℕ → Option ℕ) (are : AreRanges blocks first_at) (b : Block) (range : IsRange b) where
  range_of : (a : Block) → Contains blocks a → IsRange a
  range_of a has = All-contains IsRange blocks a are.ranges has

  told_of : (a : Block) → Contains blocks a → first_at (last_key_of a) ≡ Some a.key
  told_of a has = All-contains (λ c. first_at (last_key_of c) ≡ Some c.key) blocks a are.told has

  -- where none of the blocks overlaps it, none shares a key
  none_shares : ((a : Block) → Contains blocks a → b.key ≤ last_key_of a → a.key ≤ last_key_of b → ⊥) → list_any (shares_key b) blocks ≡ false
  none_shares never = list_any_none (shares_key b) blocks (All-each (λ a. shares_key b a ≡ false) blocks (λ a has. elim (cases_Bool (shares_key b a)) [
    | inl shared ↦ (let both = overlap b a range (range_of a has) shared in absurd (never a has both.0 both.1))
    | inr apart ↦ apart
  ]))

  -- no range ends in the block or behind it
  pub all_before : ((q : ℕ) → b.key ≤ q → first_at q ≡ None) → list_any (shares_key b) blocks ≡ false
  all_before none = none_shares (λ a has from to. let no : Some a.key ≡ None = sym (told_of a has) ∙ none (last_key_of a) from in absurd cc)

  module _ (last first : ℕ) (is : first_at last ≡ Some first) (from : b.key ≤ last) (least : (q f : ℕ) → b.key ≤ q → first_at q ≡ Some f → last ≤ q) where
    -- the next one begins in the block or before it
    next_meets : first ≤ last_key_of b → list_any (shares_key b) blocks ≡ true
    next_meets to =
        let next = are.known last first is in
        let a = next.0 in
        let has : Contains blocks a = next.1 in
        let shared = share b a range (range_of a has) (omega (arith, from, next.3)) (omega (arith, to, next.2)) in
        list_any_at (shares_key b) blocks has.0 a has.1 (ap (shares_key b) has.2 ∙ shared)

    -- the next one begins behind the block
    next_misses : last_key_of b < first → list_any (shares_key b) blocks ≡ false
    next_misses behind = grind (arith, none_shares, cases_lt, told_of)

    pub next_tells : nat_le first (last_key_of b) ≡ list_any (shares_key b) blocks
    next_tells = grind (arith, cases_lt (last_key_of b) first, lt-leb, next_misses, le-leb, next_meets)

-- ---- one more range

-- no range
pub no_ranges : (first_at : ℕ → Option ℕ) → ((q : ℕ) → first_at q ≡ None) → AreRanges [] first_at
no_ranges first_at none = grind arith

module _ (blocks : List Block) (first_at more : ℕ → Option ℕ) (are : AreRanges blocks first_at) (b : Block) (range : IsRange b) (fresh : list_any (shares_key b) blocks ≡ false) (here : more (last_key_of b) ≡ Some b.key) (others : (q : ℕ) → q ≢ last_key_of b → more q ≡ first_at q) where
  -- one of the blocks does not overlap the new one
  no_overlap : (a : Block) → Contains blocks a → b.key ≤ last_key_of a → a.key ≤ last_key_of b → ⊥
  no_overlap a has from to =
      let shared = share b a range (All-contains IsRange blocks a are.ranges has) from to in
      true≢false (sym (list_any_at (shares_key b) blocks has.0 a has.1 (ap (shares_key b) has.2 ∙ shared)) ∙ fresh)

  first_below : (a : Block) → a.key ≤ last_key_of a
  first_below a = omega arith

  -- so it ends elsewhere
  ends_elsewhere : (a : Block) → Contains blocks a → last_key_of a ≢ last_key_of b
  ends_elsewhere a has same = no_overlap a has (omega (arith, same, first_below b)) (omega (arith, same, first_below a))

  told_before : (q f : ℕ) → q ≢ last_key_of b → more q ≡ Some f → first_at q ≡ Some f
  told_before q f other is = sym (others q other) ∙ is

  told_here : (q f : ℕ) → q ≡ last_key_of b → more q ≡ Some f → f ≡ b.key
  told_here q f same is = let one : Some f ≡ Some b.key = sym is ∙ ap more same ∙ here in cc

  pub one_more : AreRanges (blocks ++ b ∷ []) more
  one_more = record {
    ranges = All-push IsRange blocks b are.ranges range;
    told = All-push (λ a. more (last_key_of a) ≡ Some a.key) blocks b (All-each (λ a. more (last_key_of a) ≡ Some a.key) blocks (λ a has.
        others (last_key_of a) (ends_elsewhere a has) ∙ All-contains (λ c. first_at (last_key_of c) ≡ Some c.key) blocks a are.told has)) here;
    known = λ last first is. elim (cases_eq last (last_key_of b)) [
      | inl same ↦ (b, Contains-append_right blocks (b ∷ []) b (Contains-first b []), sym (told_here last first same is), sym same)
      | inr other ↦ (let old = are.known last first (told_before last first other is) in (old.0, Contains-append_left blocks (b ∷ []) old.0 old.1, old.2, old.3))
    ];
    apart = λ low high first second is_low is_high before. elim (cases_eq low (last_key_of b)) [
      | inl low_is ↦ (
          let other : high ≢ last_key_of b = (λ same. omega (arith, same, low_is, before)) in
          let old = are.known high second (told_before high second other is_high) in
          elim (cases_lt low second) [
            | inl apart ↦ apart
            | inr meets ↦ absurd (no_overlap old.0 old.1 (omega (arith, old.3, low_is, before, first_below b)) (omega (arith, old.2, low_is, meets)))
          ]
          )
      | inr low_other ↦ elim (cases_eq high (last_key_of b)) [
        | inl high_is ↦ (
            let old = are.known low first (told_before low first low_other is_low) in
            let second_is = told_here high second high_is is_high in
            elim (cases_lt low second) [
              | inl apart ↦ apart
              | inr meets ↦ absurd (no_overlap old.0 old.1 (omega (arith, old.3, second_is, meets)) (omega (arith, old.2, old.3, first_below old.0, high_is, before)))
            ]
            )
        | inr high_other ↦ are.apart low high first second (told_before low first low_other is_low) (told_before high second high_other is_high) before
      ]
    ];
  }
