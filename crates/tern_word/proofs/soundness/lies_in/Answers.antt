-- Masks and keys tell.
use Rattle.std.proofs.Common.{arith, eq-eqb}
use Rattle.std.proofs.lemmas.Bool.{false≢true, eqb-true}
use Rattle.tern_word.proofs.Lying.{lies_from_masks, keys_from_lies, masks_from_lies}
use Rattle.tern_word.proofs.soundness.lies_in.Goals as goal

pub returns-then-inner-outer : goal.returns-then-inner-outer
returns-then-inner-outer c = (λ e. absurd (false≢true e), λ lies. absurd (c.if-inner-outer.true (masks_from_lies c.args.inner c.args.outer lies)))

pub returns : goal.returns
returns c = grind (arith, lies_from_masks, eqb-true, eq-eqb, keys_from_lies)
