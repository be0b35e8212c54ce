-- Laws of blocks: what they want, which meet, merges, generality.
use Rattle.std.proofs.{Props.props, lemmas.Grind.fold-append, lemmas.List.take_more, lemmas.Bool.cases_lt, lemmas.Nat.and_le_r, lemmas.Nat.or_lt, lemmas.Nat.xor_lt, lemmas.Nat.shr_split}
use Rattle.std.proofs.{lemmas.Nat.shr_high, lemmas.Nat.pow_pos, lemmas.Nat.pow_below, Math.Nat.lt_of_le_of_lt, Math.Nat.mod-lt, lemmas.List.Elements.All-nil, lemmas.List.Elements.All-cons}
use Rattle.std.proofs.lemmas.{List.Elements.All-head, List.Elements.All-tail, Nat.Bits.bit_at_and, Nat.Bits.bit_at_or, Nat.Bits.bit_at_xor, Nat.Bits.bit_at_not, Nat.Bits.bit_at-lt}
use Rattle.std.proofs.lemmas.Nat.Bits.{bit_at_above, bit_at-zero, same_from_bits, and_high_mask}
use lib.Count.{ones-le}
use Rattle.std.proofs.Common.{length, ◌≡◌, ℕ, ◌+◌, ◌-◌, ◌*◌, ◌/◌, ◌%◌, ◌^◌, ◌<◌, ◌≤◌, ◌↔◌, ◌⊎◌, min, refl, sym, ap, ◌∙◌, subst, inl, inr, List, [], ◌∷◌, ◌++◌, take, drop, get_or, take_all}
use Rattle.std.proofs.Common.{length-take, length-drop, get_or-take, get_or-drop, add_comm, arith}
use Rattle.std.specs.{Prelude.bit_and, Prelude.bit_or, Prelude.bit_xor, Prelude.All, Prelude.fold, Int.bit_at, Int.bit_not, Int.w32}
use Rattle.spin_base.specs.declared.blocks.Block.{Block}
use Rattle.tern_word.specs.{MergeFits.merge_mask, MergeFits.merge_key, Ternary.Matches, Ternary.Intersects, Ternary.LiesIn, Ternary.Wants, Ternary.IsMergeOf, Ternary.generality, Ternary.merge_two}
use Rattle.tern_word.specs.Ternary.{merge_of}
use Rattle.tern_word.proofs.Bits.{bits_of_and, and_from_bits, no_high_bit, ones_mono}

-- a bit is 0 or 1
bit_cases : (n i : ℕ) → (bit_at n i ≡ 0) ⊎ (bit_at n i ≡ 1)
bit_cases n i = grind (arith, bit_at-lt n i)

-- ---- blocks as values

module _ (key mask : ℕ) where
  within_prop : IsProp (bit_and key mask ≡ key)
  within_prop = hlevel props

  small_prop : IsProp (mask < 2 ^ 32)
  small_prop = hlevel props

  -- a block is its key and mask
  pub one_block : (w v : bit_and key mask ≡ key) (s t : mask < 2 ^ 32) → ◌≡◌ {A = Block} (record { key = key; mask = mask; within = w; small = s }) (record { key = key; mask = mask; within = v; small = t })
  one_block w v s t = ap (λ (x : bit_and key mask ≡ key). let b : Block = record { key = key; mask = mask; within = x; small = s } in b) (within_prop w v) ∙ ap (λ (x : mask < 2 ^ 32). let b : Block = record { key = key; mask = mask; within = v; small = x } in b) (small_prop s t)

-- ---- which blocks meet

-- the blocks agree on the bits for which both care
-- blocks with the same key and mask are one
pub same_block : (x y : Block) → x.key ≡ y.key → x.mask ≡ y.mask → x ≡ y
same_block x y keys masks =
    let Q : ℕ → Type 0 = λ m. (w : bit_and x.key m ≡ x.key) (s : m < 2 ^ 32) → ◌≡◌ {A = Block} x (record { key = x.key; mask = m; within = w; small = s }) in
    let q : Q y.mask = subst Q masks (λ w s. one_block x.key x.mask x.within w x.small s) in
    let R : ℕ → Type 0 = λ k. (w : bit_and k y.mask ≡ k) → ◌≡◌ {A = Block} x (record { key = k; mask = y.mask; within = w; small = y.small }) in
    let r : R y.key = subst R keys (λ w. q w y.small) in
    r y.within

abbrev pub AgreeAt : Block → Block → ℕ → Type 0
AgreeAt a b i = min (min ((bit_at a.key i + bit_at b.key i) % 2) (bit_at a.mask i)) (bit_at b.mask i) ≡ 0

agree_bits : (a b : Block) (i : ℕ) → bit_at (bit_and (bit_and (bit_xor a.key b.key) a.mask) b.mask) i ≡ min (min ((bit_at a.key i + bit_at b.key i) % 2) (bit_at a.mask i)) (bit_at b.mask i)
agree_bits a b i = grind (arith, bit_at_and (bit_and (bit_xor a.key b.key) a.mask) b.mask i, bit_at_and (bit_xor a.key b.key) a.mask i, bit_at_xor a.key b.key i)

-- a block's key is below 2 ^ 32
pub key_small : (b : Block) → b.key < 2 ^ 32
key_small b = let le : b.key ≤ b.mask = subst (λ x. x ≤ b.mask) b.within (and_le_r b.key b.mask) in lt_of_le_of_lt le b.small

-- blocks that agree meet at the key that has the bits of both
pub meet_where_agree : (a b : Block) → bit_and (bit_and (bit_xor a.key b.key) a.mask) b.mask ≡ 0 → Intersects a b
meet_where_agree a b e = record {
  key = bit_or a.key b.key;
  small = or_lt 32 a.key b.key (key_small a) (key_small b);
  first = and_from_bits _ _ _ (λ i. bits i);
  second = and_from_bits _ _ _ (λ i. bits_second i);
}
  where
    agree : (i : ℕ) → AgreeAt a b i
    agree i = sym (agree_bits a b i) ∙ ap (λ x. bit_at x i) e ∙ bit_at-zero i

    bits : (i : ℕ) → min (bit_at (bit_or a.key b.key) i) (bit_at a.mask i) ≡ bit_at a.key i
    bits i = omega (arith, agree i, bit_at_or a.key b.key i, bits_of_and _ _ _ a.within i, bits_of_and _ _ _ b.within i, bit_at-lt a.key i, bit_at-lt b.key i, bit_at-lt a.mask i, bit_at-lt b.mask i)

    bits_second : (i : ℕ) → min (bit_at (bit_or a.key b.key) i) (bit_at b.mask i) ≡ bit_at b.key i
    bits_second i = omega (arith, agree i, bit_at_or a.key b.key i, bits_of_and _ _ _ a.within i, bits_of_and _ _ _ b.within i, bit_at-lt a.key i, bit_at-lt b.key i, bit_at-lt a.mask i, bit_at-lt b.mask i)

-- blocks with a common key agree
pub agree_where_meet : (a b : Block) → Intersects a b → bit_and (bit_and (bit_xor a.key b.key) a.mask) b.mask ≡ 0
agree_where_meet a b meet = same_from_bits _ 0 (λ i. agree_bits a b i ∙ agree i ∙ sym (bit_at-zero i))
  where
    agree : (i : ℕ) → AgreeAt a b i
    agree i = omega (arith, bits_of_and _ _ _ meet.first i, bits_of_and _ _ _ meet.second i, bit_at-lt meet.key i, bit_at-lt a.mask i, bit_at-lt b.mask i)

-- meeting goes both ways
pub Intersects-sym : (a b : Block) → Intersects a b → Intersects b a
Intersects-sym a b meet = record { key = meet.key; small = meet.small; first = meet.second; second = meet.first }

-- a block that meets an inner block meets the outer one
pub Intersects-wider : (a inner outer : Block) → LiesIn inner outer → Intersects a inner → Intersects a outer
Intersects-wider a inner outer within meet = record { key = meet.key; small = meet.small; first = meet.first; second = within meet.key meet.small meet.second }

pub LiesIn-trans : (a b c : Block) → LiesIn a b → LiesIn b c → LiesIn a c
LiesIn-trans a b c ab bc k small h = bc k small (ab k small h)

-- ---- what a block wants

pub Matches-wants : (b : Block) (k i v : ℕ) → Matches b k → Wants b i v → bit_at k i ≡ v
Matches-wants b k i v m w = omega (arith, bits_of_and _ _ _ m i, w.cares, w.value, bit_at-lt k i)

pub Matches-from_wants : (b : Block) (k : ℕ) → ((i v : ℕ) → Wants b i v → bit_at k i ≡ v) → Matches b k
Matches-from_wants b k h = and_from_bits _ _ _ (λ i. by_cases i (bit_cases b.mask i))
  where
    by_cases : (i : ℕ) → (bit_at b.mask i ≡ 0) ⊎ (bit_at b.mask i ≡ 1) → min (bit_at k i) (bit_at b.mask i) ≡ bit_at b.key i
    by_cases i (inl off) = omega (arith, off, bits_of_and _ _ _ b.within i)
    by_cases i (inr on) = omega (arith, on, h i (bit_at b.key i) (record { cares = on; value = refl }), bit_at-lt k i)

-- a block that wants no more than another has all its keys
pub LiesIn-from_wants : (inner outer : Block) → ((i v : ℕ) → Wants outer i v → Wants inner i v) → LiesIn inner outer
LiesIn-from_wants inner outer h k small m = Matches-from_wants outer k (λ i v w. Matches-wants inner k i v m (h i v w))

-- ---- merges

module _ (a b : Block) (i : ℕ) where
  mask_bits : bit_at (merge_mask a b) i ≡ min (min (bit_at a.mask i) (bit_at b.mask i)) (bit_at (bit_not w32 (bit_xor a.key b.key)) i)
  mask_bits = bit_at_and (bit_and a.mask b.mask) (bit_not w32 (bit_xor a.key b.key)) i ∙ ap (λ x. min x (bit_at (bit_not w32 (bit_xor a.key b.key)) i)) (bit_at_and a.mask b.mask i)

  differ_bits : i < 32 → bit_at (bit_not w32 (bit_xor a.key b.key)) i ≡ 1 - (bit_at a.key i + bit_at b.key i) % 2
  differ_bits low = bit_at_not w32 (bit_xor a.key b.key) i (xor_lt 32 a.key b.key (key_small a) (key_small b)) low ∙ ap (λ x. 1 - x) (bit_at_xor a.key b.key i)

  key_bits : bit_at (merge_key a b) i ≡ min (bit_at a.key i) (bit_at (merge_mask a b) i)
  key_bits = bit_at_and a.key (merge_mask a b) i

  -- the merge of two blocks wants what both want
  pub merge_two-wants : (v : ℕ) → Wants (merge_two a b) i v → (Wants a i v) × (Wants b i v)
  unfolding merge_two
  merge_two-wants v w = grind (arith, mask_bits, bit_at-lt, differ_bits, no_high_bit, key_bits)

  pub wants-merge_two : (v : ℕ) → Wants a i v → Wants b i v → Wants (merge_two a b) i v
  unfolding merge_two
  wants-merge_two v wa wb = grind (arith, differ_bits (no_high_bit a.mask i a.small wa.cares), no_high_bit a.mask i a.small wa.cares, mask_bits, bit_at-lt a.key i, key_bits)

-- the merge of a block and others wants what all want
fold_wants : (bs : List Block) (b : Block) (i v : ℕ) → Wants (fold merge_two b bs) i v → (Wants b i v) × (All (λ c. Wants c i v) bs)
fold_wants [] b i v w = (w, All-nil (λ c. Wants c i v))
fold_wants (c ∷ bs) b i v w =
    let rest = fold_wants bs (merge_two b c) i v w in
    let both = merge_two-wants b c i v rest.0 in
    (both.0, All-cons (λ c. Wants c i v) c bs both.1 rest.1)

wants_fold : (bs : List Block) (b : Block) (i v : ℕ) → Wants b i v → All (λ c. Wants c i v) bs → Wants (fold merge_two b bs) i v
wants_fold [] b i v w all = w
wants_fold (c ∷ bs) b i v w all =
    wants_fold bs (merge_two b c) i v (wants-merge_two b c i v w (All-head (λ c. Wants c i v) c bs all)) (All-tail (λ c. Wants c i v) c bs all)

pub merge_of-is_merge : (bs : List Block) → 0 < length bs → IsMergeOf bs (merge_of bs)
merge_of-is_merge [] some i v = absurd (omega arith)
merge_of-is_merge (b ∷ bs) some i v = (
  λ w. let parts = fold_wants bs b i v w in All-cons (λ c. Wants c i v) b bs parts.0 parts.1,
  λ all. wants_fold bs b i v (All-head (λ c. Wants c i v) b bs all) (All-tail (λ c. Wants c i v) b bs all),
)

-- one more member
pub merge_of-push : (bs : List Block) (b : Block) → 0 < length bs → merge_of (bs ++ b ∷ []) ≡ merge_two (merge_of bs) b
merge_of-push [] b some = absurd (omega arith)
merge_of-push (first ∷ bs) b some = fold-append merge_two first bs (b ∷ [])

-- The blocks after the first, as the code takes them: each turn merges the next.
abbrev rest_of : List Block → List Block
rest_of bs = take (length bs - 1) (drop 1 bs)

pub merge_of-first : (bs : List Block) (b : Block) → 0 < length bs → b ≡ get_or bs 0 b → b ≡ merge_of (take (0 + 1) bs)
merge_of-first [] b some is = absurd (omega arith)
merge_of-first (first ∷ bs) b some is = is

pub merge_of-more : (bs : List Block) (i : ℕ) (b : Block) → i < length (rest_of bs) → b ≡ get_or (rest_of bs) i b
    → merge_two (merge_of (take (i + 1) bs)) b ≡ merge_of (take (i + 1 + 1) bs)
merge_of-more bs i b in_range is =
    let long : i + 1 < length bs = omega (arith, length-take (length bs - 1) (drop 1 bs), length-drop 1 bs) in
    let here : b ≡ get_or bs (i + 1) b = is ∙ get_or-take (length bs - 1) (drop 1 bs) i b (omega arith) ∙ get_or-drop 1 bs i b ∙ ap (λ j. get_or bs j b) (add_comm 1 i) in
    sym (merge_of-push (take (i + 1) bs) b (omega (arith, length-take (i + 1) bs)))
    ∙ ap merge_of (ap (λ x. take (i + 1) bs ++ x ∷ []) here ∙ sym (take_more bs (i + 1) b long))

pub merge_of-all : (bs : List Block) (i : ℕ) → length (rest_of bs) ≤ i → merge_of (take (i + 1) bs) ≡ merge_of bs
merge_of-all bs i past = ap merge_of (take_all (i + 1) bs (omega (arith, length-take (length bs - 1) (drop 1 bs), length-drop 1 bs)))

-- each key of a member lies in the merge
pub LiesIn-merge : (bs : List Block) → All (λ b. LiesIn b (merge_of bs)) bs
LiesIn-merge bs k d in_range = LiesIn-from_wants _ _ (λ i v w. ((merge_of-is_merge bs (omega arith) i v).0 w) k d in_range)

-- ---- generality

-- a block that wants no more than another is at least as general
pub generality-mono : (narrow wide : Block) → ((i v : ℕ) → Wants wide i v → Wants narrow i v) → generality narrow ≤ generality wide
unfolding generality
generality-mono narrow wide h = ones_mono 32 _ _ (omega (arith, narrow.small)) (λ i. by_place i (cases_lt i 32))
  where
    within : (i : ℕ) → bit_at wide.mask i ≤ bit_at narrow.mask i
    within i = elim (bit_cases wide.mask i) [
      | inl off ↦ omega (arith, off)
      | inr on ↦ omega (arith, on, (h i (bit_at wide.key i) (record { cares = on; value = refl })).cares)
    ]

    by_place : (i : ℕ) → (i < 32) ⊎ (32 ≤ i) → bit_at (bit_not w32 narrow.mask) i ≤ bit_at (bit_not w32 wide.mask) i
    by_place i (inl low) = omega (arith, within i, bit_at_not w32 narrow.mask i narrow.small low, bit_at_not w32 wide.mask i wide.small low)
    by_place i (inr high) = let small : bit_not w32 narrow.mask < 2 ^ 32 = omega arith in omega (arith, bit_at_above (bit_not w32 narrow.mask) 32 i small high)

-- a merge is at least as general as each of its members
pub generality-merge : (bs : List Block) → All (λ b. generality b ≤ generality (merge_of bs)) bs
generality-merge bs k d in_range = generality-mono _ _ (λ i v w. ((merge_of-is_merge bs (omega arith) i v).0 w) k d in_range)

-- a generality is at most 32
pub generality_le : (b : Block) → generality b ≤ 32
unfolding generality
generality_le b = ones-le 32 (bit_not w32 b.mask) (omega arith)

-- ---- the block of a range of keys

module _ (e place : ℕ) (fits : e ≤ 32) (aligned : place % 2 ^ e ≡ 0) (small : place < 2 ^ 32) where
  whole : place / 2 ^ e * 2 ^ e ≡ place
  whole = omega (arith, shr_split place e)

  pub range_within : bit_and place (2 ^ 32 - 2 ^ e) ≡ place
  range_within = and_high_mask 32 e fits place small ∙ whole

  pub range_keys : (k : ℕ) → k < 2 ^ 32 → (bit_and k (2 ^ 32 - 2 ^ e) ≡ place) ↔ ((place ≤ k) × (k < place + 2 ^ e))
  range_keys k key_small = (
    λ m. let same : k / 2 ^ e * 2 ^ e ≡ place = sym masked ∙ m in (omega (arith, shr_split k e), omega (arith, shr_split k e, mod-lt k (pow_pos e))),
    λ (from, to). masked ∙ near from to,
  )
    where
      masked : bit_and k (2 ^ 32 - 2 ^ e) ≡ k / 2 ^ e * 2 ^ e
      masked = and_high_mask 32 e fits k key_small

      near : place ≤ k → k < place + 2 ^ e → k / 2 ^ e * 2 ^ e ≡ place
      near from to = grind (arith, whole, shr_high (place / 2 ^ e) e (k - place) (omega arith))

-- a power of two up to 2 ^ 32 has an exponent up to 32
pub exponent_le : (e : ℕ) → 2 ^ e ≤ 2 ^ 32 → e ≤ 32
exponent_le e le = elim (cases_lt 32 e) [
  | inl above ↦ absurd (omega (arith, pow_below 32 e above))
  | inr within ↦ within
]
