use Rattle.run_report.proofs.Common.{List, ap, codes, decimal, ℕ, ◌++◌, ◌∙◌}
use Rattle.run_report.proofs.Joining.{six_appended}
use Rattle.run_report.proofs.texts.put_end.Goals as goal

pub returns : goal.returns
returns c =
    let counted : List ℕ → List ℕ → ℕ → List ℕ = λ text words n. text ++ (words ++ decimal n) in
    six_appended _ _ _ _ _ _ _ _ _ _ _ _ _ c.in_ok-put.ensures
    (c.in_ok-put_count.ensures ∙ ap (counted c.put.new.text.items (codes " delivered ")) c.len.ensures)
    (c.in_ok-put_count-2.ensures ∙ ap (counted c.put_count.new.text.items (codes " dumped ")) c.len-2.ensures)
    (c.in_ok-put_count-3.ensures ∙ ap (counted c.put_count-2.new.text.items (codes " waiting ")) c.len-3.ensures)
    c.in_ok-put_count-4.ensures c.in_ok-put-2.ensures
