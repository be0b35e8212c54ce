use Rattle.std.proofs.Common.{◌≡◌, ◌<◌, length, get_or, subst, ap, ◌∙◌}
use Rattle.table_load.specs.Memories.{loaded}
use Rattle.table_load.proofs.Filling.{all_empty, load_more}
use Rattle.table_load.proofs.loads.load.Goals as goal

pub loop-table-init : goal.loop-table-init
loop-table-init c = all_empty _ _ c.in_ok-memories.ensures

pub loop-table-preserved : goal.loop-table-preserved
loop-table-preserved c =
    load_more c.args.image.now c.requires c.loop-table.table-index c.table-item.result
    (subst (λ l. c.loop-table.table-index < length l) c.as_slice-table-items.ensures c.loop-table-test.true)
    (subst (λ l. c.table-item.result ≡ get_or l c.loop-table.table-index c.table-item.result) c.as_slice-table-items.ensures c.table-item.is)
    c.loop-table.memories.items c.loop-table.invariant.0 c.loop-table.invariant.1 c.in_ok-memory.memory
    (c.in_ok-memory.ensures ∙ ap loaded c.as_slice.ensures)
