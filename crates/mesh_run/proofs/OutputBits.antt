-- The numbers of a range, and that each of a chip's outputs has a bit.
use Rattle.mesh_run.proofs.Common.{Among, IsOutput, Out, all_outs, among_either, among_map, arith, inl, inr, range_with_len, suc, zero, ℕ, ◌+◌, ◌<◌, ◌≤◌}
use Rattle.spin_base.specs.Outputs.{core_outs, link_outs}

-- what stands in a range is within it
pub range_parts : (a n j : ℕ) → Among j (range_with_len a n) → (a ≤ j) × (j < a + n)
range_parts a zero j none = absurd none
range_parts a (suc n) j (inl here) = (omega (arith, here), omega (arith, here))
range_parts a (suc n) j (inr there) = grind (arith, range_parts (a + 1) n j there)

link_bit : (o : Out) → Among o link_outs → IsOutput o
unfolding link_outs
link_bit o a = grind (arith, among_map)

core_bit : (o : Out) → Among o core_outs → IsOutput o
unfolding core_outs
core_bit o a = grind (arith, among_map, range_parts)

pub has_bit : (o : Out) → Among o all_outs → IsOutput o
has_bit o a = grind (arith, among_either o link_outs core_outs a, link_bit, core_bit)
