-- The mask clears the low bits of a key, in which the block's keys differ.
use Rattle.std.proofs.Common.{◌-◌, arith}
use Rattle.tern_word.proofs.BlockLaws.{range_within, range_keys, exponent_le}
use Rattle.std.proofs.lemmas.Nat.{pow_pos}
use Rattle.tern_word.proofs.blocks.block_of.Goals as goal

pub invariant_of-result : goal.invariant_of-result
invariant_of-result c = grind (arith, pow_pos (c.requires.power.0), exponent_le, range_within)

pub returns-clause-keys : goal.returns-clause-keys
returns-clause-keys c = grind (arith, exponent_le, range_keys)
