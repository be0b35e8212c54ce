-- A block less other blocks, cut bit by bit (this project's own; blocks: SpiNNaker datasheet).
use Rattle.std.specs.Prelude.{◌==◌, ◌&&◌, ℕ, zero, suc, ◌^◌, Bool, not, if◌then◌else◌, List, [], ◌∷◌, ◌++◌, length, Option, Some, None, bit_and, bit_xor, nat_le}
use Rattle.std.specs.List.{flat_map}
use Rattle.spin_base.specs.declared.blocks.Block.{Block}
use Rattle.block_cuts.specs.NarrowFits.{narrow_mask, narrow_key, narrow_within, narrow_small}

-- whether some key lies in both blocks: they agree on the bits for which both care
abbrev pub meets : Block → Block → Bool
meets a b = bit_and (bit_and (bit_xor a.key b.key) a.mask) b.mask == 0

-- the keys of the block p that have this value under the bit, where e cares for it
unfoldable pub narrow : Block → Block → ℕ → ℕ → Block
narrow p e bit value = record {
  key = narrow_key p e bit value;
  mask = narrow_mask p e bit;
  within = narrow_within p e bit value;
  small = narrow_small p e bit;
}

-- the half of p that has the bit of e, and the half that has the other value
abbrev pub own_half : Block → Block → ℕ → Block
own_half p e bit = narrow p e bit (bit_and e.key bit)

abbrev pub other_half : Block → Block → ℕ → Block
other_half p e bit = narrow p e bit (bit_and (bit_xor e.mask e.key) bit)

-- p is cut at a bit for which e cares and p does not
abbrev pub is_cut_at : Block → Block → ℕ → Bool
is_cut_at p e bit = (bit_and p.mask bit == 0) && not (bit_and e.mask bit == 0)

-- the half that has no key of e, where p is cut
abbrev pub halves : Block → Block → ℕ → List Block
halves p e bit = if is_cut_at p e bit then other_half p e bit ∷ [] else []

-- what is still to be cut
abbrev pub part_to_cut : Block → Block → ℕ → Block
part_to_cut p e bit = if is_cut_at p e bit then own_half p e bit else p

-- The keys of p that are not of e, as far as the lowest bits tell, from the highest of them to the lowest: at each bit for which e
-- cares and p does not, the half with the other value is apart from e, and the half with its value is cut further.
abbrev pub less : ℕ → Block → Block → List Block
less zero p e = []
less (suc i) p e = halves p e (2 ^ i) ++ less i (part_to_cut p e (2 ^ i)) e

-- the keys of p that are not of e, by all bits
unfoldable pub less_of : Block → Block → List Block
less_of p e = less 32 p e

-- the keys of p that are not of e: p itself, where the two do not meet
abbrev pub apart_of : Block → Block → List Block
apart_of e p = if meets p e then less_of p e else p ∷ []

-- the pieces of a block after it is cut by one more
abbrev pub cut_by : Block → Block → List Block → List Block
cut_by block e pieces = if meets block e then flat_map (apart_of e) pieces else pieces

-- The pieces of a block after it is cut by the others in turn. There are none where at some time it is in more than so many.
abbrev pub cut_from : ℕ → Block → List Block → List Block → Option (List Block)
cut_from room block pieces [] = if nat_le (length pieces) room then Some pieces else None
cut_from room block pieces (e ∷ es) = if nat_le (length pieces) room then cut_from room block (cut_by block e pieces) es else None

-- the block less the others
abbrev pub cut : ℕ → Block → List Block → Option (List Block)
cut room block others = cut_from room block (block ∷ []) others
