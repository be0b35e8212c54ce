-- Nets have at most one right list of blocks.
use Rattle.key_alloc.proofs.Common.{AreFirstBlocks, AreKeysOut, AreRightBlocks, Block, EachFollows, IsBlockFor, IsLeastBlock, IsOpenPlace, List, MatchOption, Net, None, Option, Some, ap, arith}
use Rattle.key_alloc.proofs.Common.{cases_lt, determined_begins, fixed_of, inl, inr, length, one_item_at, rules, same_block, size_of, slice_get, slice_get_cases, slice_get_there, slice_get_within}
use Rattle.key_alloc.proofs.Common.{subst, sym, take, take_all, ℕ, ◌++◌, ◌∙◌, ◌≡◌, ◌≤◌}
use Rattle.key_alloc.proofs.Sizes.{one_size}

same_least : (taken : List Block) (keys : ℕ) (x y : Block) → IsLeastBlock taken keys x → IsLeastBlock taken keys y → x ≡ y
same_least taken keys x y a b =
    let sizes : size_of x ≡ size_of y = one_size keys (size_of x) (size_of y) a.size b.size in
    let masks : x.mask ≡ y.mask = omega (arith, sizes, x.small, y.small) in
    let up : x.key ≤ y.key = a.least y.key (subst (λ s. IsOpenPlace taken s y.key) (sym sizes) b.may) in
    let down : y.key ≤ x.key = b.least x.key (subst (λ s. IsOpenPlace taken s x.key) sizes a.may) in
    same_block x y (omega arith) masks

one_for_net : (taken : List Block) (net : Net) (x y : Block) → IsBlockFor taken net x → IsBlockFor taken net y → x ≡ y
one_for_net taken net x y = by_fixed net.fixed
  where
    by_fixed : (o : Option Block) → MatchOption o (IsLeastBlock taken net.keys x) (λ f. x ≡ f) → MatchOption o (IsLeastBlock taken net.keys y) (λ f. y ≡ f) → x ≡ y
    by_fixed None a b = same_least taken net.keys x y a b
    by_fixed (Some f) a b = a ∙ sym b

-- the block at a place is that of the net there, where these blocks stand before it
abbrev Follows : List Net → List Block → ℕ → Block → Type 0
Follows nets before n b = (net : Net) × (slice_get nets n ≡ Some net) × IsBlockFor (fixed_of nets ++ before) net b

same_follower : (nets : List Net) (before : List Block) (n : ℕ) (x y : Block) → Follows nets before n x → Follows nets before n y → x ≡ y
same_follower nets before n x y a b = search (rules, one_item_at, one_for_net)

followed : (nets : List Net) (xs : List Block) → AreFirstBlocks nets xs → EachFollows (Follows nets) (same_follower nets) xs
followed nets xs first n x is = grind (arith, slice_get_there nets n (omega (arith, slice_get_within xs n x is, first.few)), slice_get_within xs n x is)

-- the shorter of two lists of first blocks is the beginning of the longer
begins : (nets : List Net) (xs ys : List Block) → AreFirstBlocks nets xs → AreFirstBlocks nets ys → length xs ≤ length ys → take (length xs) ys ≡ xs
begins nets xs ys a b le = determined_begins (Follows nets) (same_follower nets) xs ys (followed nets xs a) (followed nets ys b) le

pub one_list : (nets : List Net) (xs ys : List Block) → AreRightBlocks nets xs → AreRightBlocks nets ys → xs ≡ ys
one_list nets xs ys a b = sym (begins nets xs ys a.first b.first (omega (arith, a.all, b.all))) ∙ take_all (length xs) ys (omega (arith, a.all, b.all))

-- where keys are out, no list of first blocks goes beyond
no_further : (nets : List Net) (xs : List Block) (i : ℕ) → AreFirstBlocks nets xs → AreKeysOut nets i → length xs ≤ i
no_further nets xs i first out =
    elim (cases_lt i (length xs)) [
      | inl beyond ↦ elim (slice_get_cases xs i).1 [
        | inl (x, x_in, is_x, got_x) ↦ (
            let mine = subst (λ o. MatchOption o (IsLeastBlock (fixed_of nets ++ take i xs) out.net.keys x) (λ f. x ≡ f)) out.free (first.each i out.net x out.is is_x) in
            let same : take i xs ≡ out.blocks = ap (λ n. take n xs) (sym out.here) ∙ begins nets out.blocks xs out.before first (omega (arith, out.here)) in
            absurd (out.none (size_of x) x.key mine.size (subst (λ e. IsOpenPlace (fixed_of nets ++ e) (size_of x) x.key) same mine.may))
            )
        | inr (past, none) ↦ absurd (omega arith)
      ]
      | inr within ↦ within
    ]

pub not_both : (nets : List Net) (xs : List Block) (i : ℕ) → AreRightBlocks nets xs → AreKeysOut nets i → ⊥
not_both nets xs i right out = omega (arith, no_further nets xs i right.first out, right.all, slice_get_within nets i out.net out.is)

pub one_net : (nets : List Net) (i j : ℕ) → AreKeysOut nets i → AreKeysOut nets j → i ≡ j
one_net nets i j a b = omega (arith, no_further nets a.blocks j a.before b, no_further nets b.blocks i b.before a, a.here, b.here)
