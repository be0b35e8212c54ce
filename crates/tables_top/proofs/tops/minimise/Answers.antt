-- How the call ends.
use Rattle.std.proofs.Common.{inl, inr, refl, arith}
use Rattle.tables_top.specs.Ending.{has_words, made, no_line, refused}
use Rattle.tables_top.proofs.tops.minimise.Goals as goal

pub returns-then-not-is_empty-clause-ends : goal.returns-then-not-is_empty-clause-ends
returns-then-not-is_empty-clause-ends g c = has_words (grind (arith, c.is_empty.ensures, c.if-not-is_empty.true)) (refl, refl) c.write_words.ensures.told

pub returns-in-Ok-clause-ends : goal.returns-in-Ok-clause-ends
returns-in-Ok-clause-ends g c =
    made (grind (arith, c.is_empty.ensures, c.if-not-is_empty.false)) c.in-Ok.made.tables c.in-Ok.made.text c.in-Ok.ensures.made c.write_text.ensures.tables c.write_text.ensures.sent

pub returns-in-Err-clause-ends : goal.returns-in-Err-clause-ends
returns-in-Err-clause-ends g c =
    elim c.write_refusal.ensures.told [
      | inl told ↦ refused (grind (arith, c.is_empty.ensures, c.if-not-is_empty.false)) c.in-Err.refusal c.in-Err.ensures.err told
      | inr told ↦ no_line (grind (arith, c.is_empty.ensures, c.if-not-is_empty.false)) c.in-Err.refusal c.in-Err.ensures.err told
    ]
