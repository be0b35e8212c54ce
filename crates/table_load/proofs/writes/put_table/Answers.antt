use Rattle.std.proofs.Common.{◌≡◌, ◌∙◌, ◌<◌, ap, sym, subst, get_or, ◌+◌, [], ◌∷◌, ◌++◌, length, take}
use Rattle.std.proofs.lemmas.List.{take_more}
use Rattle.std.specs.Int.{w16, to_le_bytes}
use Rattle.table_load.specs.Images.{row_bytes}
use Rattle.table_load.proofs.Spelling.{spelled_more}
use Rattle.table_load.proofs.writes.put_table.Goals as goal

pub loop-entry-preserved : goal.loop-entry-preserved
loop-entry-preserved c =
    let rows = c.args.table.now.entries in
    let n = c.loop-entry.entry-index in
    spelled_more row_bytes c.args.bytes.now.items
    ((c.args.table.now.chip.x ∷ c.args.table.now.chip.y ∷ []) ++ to_le_bytes w16 (length rows))
    (take n rows) (take (n + 1) rows) c.entry-item.result _ _
    c.loop-entry.invariant c.in_ok-put_row.ensures
    (take_more rows n c.entry-item.result (subst (λ l. n < length l) c.as_slice-entry-items.ensures c.loop-entry-test.true)
    ∙ ap (λ y. take n rows ++ y ∷ []) (sym (subst (λ l. c.entry-item.result ≡ get_or l n c.entry-item.result) c.as_slice-entry-items.ensures c.entry-item.is)))
