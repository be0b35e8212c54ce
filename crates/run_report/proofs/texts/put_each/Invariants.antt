use Rattle.run_report.proofs.Common.{flat_map, take, ◌++◌, ◌≡◌}
use Rattle.run_report.proofs.texts.put_each.Given as goal

-- the lines so far are written
abbrev pub invariant-loop-item : goal.invariant-loop-item
invariant-loop-item g l = l.text.items ≡ l.fn.text.items ++ flat_map (g.T.Told.lines) (take l.item-index l.items)
