-- One bit more, one piece more, one block more.
use Rattle.std.proofs.Common.{◌≡◌, ℕ, ◌+◌, ◌-◌, ◌<◌, ◌≤◌, ◌^◌, List, [], ◌∷◌, ◌++◌, get_or, take, length, append_assoc, arith}
use Rattle.std.specs.List.{flat_map}
use Rattle.std.proofs.lemmas.List.{append-nil, take_more, Concat.flat_map-append}
use Rattle.spin_base.specs.declared.blocks.Block.{Block}
use Rattle.block_cuts.specs.Cuts.{apart_of, halves, less, less_of, part_to_cut}

less_turn : (n : ℕ) (p e : Block) → n < 32 → less (32 - n) p e ≡ halves p e (2 ^ (31 - n)) ++ less (32 - (n + 1)) (part_to_cut p e (2 ^ (31 - n))) e
less_turn n p e small = grind arith

-- what is put, with what is still to be put, is all that is to be put
pub put_turn : (n bit : ℕ) (p e rest : Block) (old new all : List Block) → n < 32 → bit ≡ 2 ^ (31 - n) → old ++ less (32 - n) p e ≡ all → new ≡ old ++ halves p e bit → rest ≡ part_to_cut p e bit
    → new ++ less (32 - (n + 1)) rest e ≡ all
put_turn n bit p e rest old new all small is so_far put left = grind (arith, append_assoc, less_turn)

pub put_all : (n : ℕ) (p e : Block) (old all : List Block) → 32 ≤ n → old ++ less (32 - n) p e ≡ all → old ≡ all
put_all n p e old all past so_far = grind (arith, append-nil old)

pub less_is : (p e : Block) (old new : List Block) → new ≡ old ++ less 32 p e → new ≡ old ++ less_of p e
unfolding less_of
less_is p e old new same = same

-- what is left of one piece more
pub left_more : (e : Block) (pieces : List Block) (i : ℕ) (piece : Block) (old new : List Block) → i < length pieces → piece ≡ get_or pieces i piece →
    old ≡ flat_map (apart_of e) (take i pieces) → new ≡ old ++ apart_of e piece → new ≡ flat_map (apart_of e) (take (i + 1) pieces)
left_more e pieces i piece old new within read so_far put = grind (arith, append-nil (apart_of e piece), flat_map-append (apart_of e) (take i pieces) (piece ∷ []), take_more pieces i piece within)
