use Rattle.key_alloc.proofs.Common.{AreFirstBlocks, AreKeysFreeBeside, [], ap, append_assoc, arith, fixed_of, length, length_push, refl, slice_get, slice_get_read, subst, sym, ◌++◌, ◌∙◌, ◌∷◌, ◌≡◌}
use Rattle.key_alloc.proofs.{FixedBlocks.have_fixed, FixedBlocks.fixed_among, Growing.one_more, Growing.blocks_apart, Growing.keys_enough}
use Rattle.key_alloc.proofs.alloc.keys.Goals as goal

pub returns-in_default-clause-keys_out : goal.returns-in_default-clause-keys_out
returns-in_default-clause-keys_out c = record {
  blocks = c.loop-i.blocks;
  before = c.loop-i.invariant.first;
  here = c.loop-i.invariant.each_one;
  net = c.net-item.result;
  is = grind (arith, slice_get, slice_get_read);
  free = rw c.in_default.is at c.in_ok-block.ensures.not_fixed;
  none = (rw c.in_default.is at c.in_ok-block.ensures.none) (fixed_of c.args.graph.now.nets ++ c.loop-i.blocks) c.loop-i.invariant.free;
}

pub loop-i-preserved : goal.loop-i-preserved
loop-i-preserved c =
    let nets = c.args.graph.now.nets in
    let blocks = c.loop-i.blocks in
    let net = c.net-item.result in
    let b = c.in-Some.block in
    let is = sym (ap (λ l. slice_get l c.loop-i.i) c.as_slice-net-items.ensures)
    ∙ slice_get_read c.as_slice-net-items.result.now _ c.loop-i.i net refl c.loop-i-test.true c.net-item.is in
    let right = (rw c.in-Some.is at c.in_ok-block.ensures.right) (fixed_of nets ++ blocks) c.loop-i.invariant.free in
    let free = (rw c.in-Some.is at c.in_ok-block.ensures.free) (fixed_of nets ++ blocks) c.loop-i.invariant.free (fixed_among nets blocks c.loop-i.i net is) in
    let pushed : c.push.new.self ≡ blocks ++ b ∷ [] = c.in_ok-push.ensures.ok in
    record {
      each_one = omega (arith, ap length pushed, length_push blocks b, c.loop-i.invariant.each_one);
      first = subst (AreFirstBlocks nets) (sym pushed) (one_more nets blocks c.loop-i.i net b c.loop-i.invariant.first c.loop-i.invariant.each_one is right);
      free = subst (λ l. AreKeysFreeBeside l c.block_for.new.free) (append_assoc (fixed_of nets) blocks (b ∷ []) ∙ ap (λ l. fixed_of nets ++ l) (sym pushed)) free;
    }

pub returns-clause-apart : goal.returns-clause-apart
returns-clause-apart c =
    blocks_apart _ _ (have_fixed _ c.requires) (record { first = c.loop-i.invariant.first; all = omega (arith, ap length c.as_slice-net-items.ensures, c.loop-i.invariant.first.few) })

pub returns-clause-enough : goal.returns-clause-enough
returns-clause-enough c = grind (arith, keys_enough, have_fixed)
