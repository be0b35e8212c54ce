-- What is known of groups, and of blocks of eight of them.
use Rattle.std.proofs.Common.{◌≡◌, ◌≢◌, ℕ, ◌+◌, ◌-◌, ◌*◌, ◌/◌, ◌<◌, ◌≤◌, eqb, false, List, length, get_or, set, bit_and, replicate, ap, ◌∙◌, subst, arith, inl, inr}
use Rattle.std.proofs.lemmas.{Bool.cases_lt, Bool.eqb-false, Bool.eqb-true, List.get_or-replicate, List.get_or-set_other, Grind.get_or-set_at}
use Rattle.std.specs.Int.Bits.{and_zero_r}
use Rattle.tcam_find.specs.Memory.{Misses, TellOfGroups}

-- what holds before a block, and in the block's first places, holds before those
pub through_block : {P : ℕ → Type 0} (from at r : ℕ) → ((k : ℕ) → from ≤ k → k < at → P k) → ((k : ℕ) → k < r → P (at + k))
    → (k : ℕ) → from ≤ k → k < at + r → P k
through_block {P} from at r before here k behind lt =
    elim (cases_lt k at) [
      | inl early ↦ before k behind early
      | inr late ↦ (let back : at + (k - at) ≡ k = omega (arith, late) in subst P back (here (k - at) (omega (arith, late, lt))))
    ]

-- ---- other bits at a place

module _ (common values : List ℕ) (i c v : ℕ) (in_common : i < length common) (in_values : i < length values) where
  pub at_set : (k key : ℕ) → k ≡ i → eqb (bit_and key (get_or (set common i c) k 0)) (get_or (set values i v) k 0) ≡ eqb (bit_and key c) v
  at_set k key same = grind (arith, get_or (set values i v) k 0, get_or-set_at common i k c 0 same in_common, bit_and key c, get_or-set_at values i k v 0 same in_values)

  off_set : (k key : ℕ) → k ≢ i → eqb (bit_and key (get_or (set common i c) k 0)) (get_or (set values i v) k 0) ≡ eqb (bit_and key (get_or common k 0)) (get_or values k 0)
  off_set k key other = grind (arith, get_or (set values i v) k 0, get_or-set_other common i k c 0 other, bit_and key (get_or common k 0), get_or common k 0, get_or-set_other values i k v 0 other)

  -- a key that misses them has missed what stood there
  pub missed_before : ((key : ℕ) → eqb (bit_and key c) v ≡ false → Misses common values i key)
      → (k key : ℕ) → Misses (set common i c) (set values i v) k key → Misses common values k key
  missed_before others k key miss = grind (arith, eqb-true, at_set, off_set, eqb-false)

-- once a group has other bits, and its block has them too
pub blocks_after : (common values block_common block_values : List ℕ) (i c v d w : ℕ)
    → i < length common → i < length values → i / 8 < length block_common → i / 8 < length block_values
    → TellOfGroups common values block_common block_values
    → ((key : ℕ) → eqb (bit_and key d) w ≡ false → Misses block_common block_values (i / 8) key)
    → ((key : ℕ) → eqb (bit_and key d) w ≡ false → eqb (bit_and key c) v ≡ false)
    → TellOfGroups (set common i c) (set values i v) (set block_common (i / 8) d) (set block_values (i / 8) w)
blocks_after common values block_common block_values i c v d w in_common in_values in_blocks in_block_values tell of_others of_group k key below miss =
    grind (arith, eqb-true, at_set, off_set, eqb-false, missed_before)

-- groups whose blocks the key misses
pub blocks_passed : (common values block_common block_values : List ℕ) (from block key : ℕ) → block ≤ 16
    → TellOfGroups common values block_common block_values
    → ((b : ℕ) → from / 8 ≤ b → b < block → Misses block_common block_values b key)
    → (i : ℕ) → from ≤ i → i < 8 * block → Misses common values i key
blocks_passed common values block_common block_values from block key few tell passed i behind before = grind arith

-- the blocks of an empty memory
pub blocks_empty : TellOfGroups (replicate 136 0) (replicate 136 0xffff_ffff) (replicate 24 0) (replicate 24 0xffff_ffff)
blocks_empty i key below miss =
    ap (λ n. eqb (bit_and key n) (get_or (replicate 136 0xffff_ffff) i 0)) (get_or-replicate 136 i 0 0 (omega (arith, below)))
    ∙ ap (λ n. eqb (bit_and key 0) n) (get_or-replicate 136 i 0xffff_ffff 0 (omega (arith, below)))
    ∙ ap (λ n. eqb n 0xffff_ffff) (and_zero_r key)
