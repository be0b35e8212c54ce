-- Nets that need at most 16 keys each, and have none fixed: the first i nets take keys below 16 * i, so a range is left.
use Rattle.job_gen.proofs.Common.{AreFirstBlocks, AreKeysOut, Block, IsLeastBlock, IsOpenPlace, IsPowerOfTwo, IsSizeFor, List, MatchOption, MissesRange, Net, None, Some, [], and_parts, arith}
use Rattle.job_gen.proofs.Common.{cases_lt, fixed_of, get_or, get_or-take, inl, inr, leb-true, length, length-take, ltb-true, pow_mono, refl, size_of, slice_get, slice_get-get_or, slice_get_there}
use Rattle.job_gen.proofs.Common.{slice_get_within, subst, suc, sym, take, take_all, zero, ℕ, ◌%◌, ◌*◌, ◌++◌, ◌+◌, ◌<◌, ◌^◌, ◌≡◌, ◌≤◌}

-- ---- sizes

-- the least power of two that is not below a number, up to one
some_size : (keys k : ℕ) → 1 ≤ keys → keys ≤ 2 ^ k → (size : ℕ) × IsSizeFor keys size
some_size keys zero some few = (1, record { power = (0, refl); enough = few; least = λ p is above. omega (arith, some, above) })
some_size keys (suc k) some few = elim (cases_lt (2 ^ k) keys) [
  | inr less ↦ some_size keys k some less
  | inl more ↦ (2 ^ (suc k), record { power = (suc k, refl); enough = few; least = λ p is above. above_half is.0 p (omega (arith, is.1, more, above)) is.1 })
]
  where
    above_half : (j p : ℕ) → 2 ^ k < 2 ^ j → p ≡ 2 ^ j → 2 ^ (suc k) ≤ p
    above_half j p more is = elim (cases_lt k j) [
      | inl less ↦ (let up : 2 ^ (suc k) ≤ 2 ^ j = pow_mono {i = suc k} {j = j} (omega arith) in omega (arith, up, is))
      | inr low ↦ (let down : 2 ^ j ≤ 2 ^ k = pow_mono {i = j} {j = k} low in absurd (omega (arith, down, more)))
    ]

-- such a size is at most 16, and divides 16
size_small : (keys size : ℕ) → keys ≤ 16 → IsSizeFor keys size → size ≤ 16
size_small keys size few is = is.least 16 (4, refl) few

divides : (k i : ℕ) → 2 ^ k ≤ 16 → (16 * i) % 2 ^ k ≡ 0
divides zero i small = omega arith
divides (suc zero) i small = omega arith
divides (suc (suc zero)) i small = omega arith
divides (suc (suc (suc zero))) i small = omega arith
divides (suc (suc (suc (suc zero)))) i small = omega arith
divides (suc (suc (suc (suc (suc k))))) i small = absurd (let more : 2 ^ 5 ≤ 2 ^ (suc (suc (suc (suc (suc k))))) = pow_mono {i = 5} {j = suc (suc (suc (suc (suc k))))} (omega arith) in omega (arith, more, small))

-- ---- blocks

-- a block that ends at or below a place misses what begins there
misses : (place size : ℕ) (b : Block) → b.key + size_of b ≤ place → MissesRange place size b
misses place size b ends k mine its = grind (arith, ltb-true, and_parts, leb-true)

abbrev EndAt : ℕ → List Block → Type 0
EndAt i blocks = (k : ℕ) (b : Block) → k < i → slice_get blocks k ≡ Some b → b.key + size_of b ≤ 16 * (k + 1)

-- what a net needs
pub record NeedsFew (net : Net) : Type 0 where
  pub free : net.fixed ≡ None
  pub some : 1 ≤ net.keys
  pub few : net.keys ≤ 16

module _ (nets : List Net) (needs : (i : ℕ) (net : Net) → slice_get nets i ≡ Some net → NeedsFew net) (none_fixed : fixed_of nets ≡ []) (many : length nets ≤ 300) where
  -- where the first blocks end low, a range behind them is open
  open_behind : (blocks : List Block) (i size : ℕ) → i ≤ 300 → IsPowerOfTwo size → size ≤ 16 → EndAt i blocks → IsOpenPlace (fixed_of nets ++ take i blocks) size (16 * i)
  open_behind blocks i size few power small ends = subst (λ l. IsOpenPlace (l ++ take i blocks) size (16 * i)) (sym none_fixed) (record {
    aligned = subst (λ n. (16 * i) % n ≡ 0) (sym power.1) (divides power.0 i (omega (arith, power.1, small)));
    within = omega arith;
    apart = λ k d below. misses (16 * i) size (get_or (take i blocks) k d) (end_of k d below);
  })
    where
      end_of : (k : ℕ) (d : Block) → k < length (take i blocks) → (get_or (take i blocks) k d).key + size_of (get_or (take i blocks) k d) ≤ 16 * i
      end_of k d below =
          let low : k < i = omega (arith, below, length-take i blocks) in
          let here : k < length blocks = omega (arith, below, length-take i blocks) in
          let same : get_or (take i blocks) k d ≡ get_or blocks k d = get_or-take i blocks k d low in
          let bound = ends k (get_or blocks k d) low (slice_get-get_or blocks k d here) in
          subst (λ (b : Block). b.key + size_of b ≤ 16 * i) (sym same) (omega (arith, bound, low))

  module _ (blocks : List Block) (first : AreFirstBlocks nets blocks) where
    block_ends : (i : ℕ) (b : Block) → slice_get blocks i ≡ Some b → EndAt i blocks → b.key + size_of b ≤ 16 * (i + 1)
    block_ends i b at ends =
        let below : i < length blocks = slice_get_within blocks i b at in
        let in_nets : i < length nets = omega (arith, below, first.few) in
        let net = slice_get_there nets i in_nets in
        let need = needs i net.0 net.1 in
        let block : IsLeastBlock (fixed_of nets ++ take i blocks) net.0.keys b =
        subst (λ o. MatchOption o (IsLeastBlock (fixed_of nets ++ take i blocks) net.0.keys b) (λ fixed. b ≡ fixed)) need.free (first.each i net.0 b net.1 at) in
        let small : size_of b ≤ 16 = size_small net.0.keys (size_of b) need.few block.size in
        let low : b.key ≤ 16 * i = block.least (16 * i) (open_behind blocks i (size_of b) (omega arith) block.size.power small ends) in
        omega (arith, small, low)

    all_end : (i : ℕ) → EndAt i blocks
    all_end zero k b below at = absurd (omega arith)
    all_end (suc i) k b below at = grind (arith, cases_lt k i, slice_get blocks i, slice_get blocks, all_end i, block_ends)

  pub keys_are_left : (i : ℕ) → AreKeysOut nets i → ⊥
  keys_are_left i out =
      let need = needs i out.net out.is in
      let below : i < length nets = slice_get_within nets i out.net out.is in
      let size = some_size out.net.keys 4 need.some need.few in
      let behind : IsOpenPlace (fixed_of nets ++ take i out.blocks) size.0 (16 * i) =
      open_behind out.blocks i size.0 (omega arith) size.1.power (size_small out.net.keys size.0 need.few size.1) (all_end out.blocks out.before i) in
      let whole : take i out.blocks ≡ out.blocks = take_all i out.blocks (omega (arith, out.here)) in
      out.none size.0 (16 * i) size.1 (subst (λ l. IsOpenPlace (fixed_of nets ++ l) size.0 (16 * i)) whole behind)
