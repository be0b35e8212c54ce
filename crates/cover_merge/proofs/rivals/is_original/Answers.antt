-- The first alias that was read has the row's key and mask.
use Rattle.cover_merge.proofs.Common.{and_parts, ap, eqb-true, option_copied, slice_get, sym, true, ◌&&◌, ◌==◌, ◌∙◌, ◌≡◌}
use Rattle.cover_merge.proofs.rivals.is_original.Goals as goal

pub returns-in-Some : goal.returns-in-Some
returns-in-Some c came =
    let a = c.in-Some.alias.now.block in
    let b = c.args.row.now.block in
    let same : ((a.key == b.key) && (a.mask == b.mask)) ≡ true = sym c.eq.ensures ∙ came in
    let both = and_parts (a.key == b.key) (a.mask == b.mask) same in record {
      at = 0;
      alias = c.in-Some.alias.now;
      found = ap (λ l. slice_get l 0) (sym c.as_slice.ensures) ∙ sym c.first.ensures.value ∙ ap option_copied c.in-Some.is;
      key = eqb-true a.key b.key both.0;
      mask = eqb-true a.mask b.mask both.1;
    }
