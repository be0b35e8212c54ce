use Rattle.run_report.proofs.Common.{Description, ap, ap₂, arith, chip_of, chip_waits, flat_map, flat_map_more, map, map-range_with_len_more, range_with_len, sym, ◌++◌, ◌∙◌}
use Rattle.run_report.proofs.waits.put_chips.Goals as goal

pub loop-index-preserved : goal.loop-index-preserved
loop-index-preserved c =
    let f = chip_waits c.args.mesh.now in
    let g = chip_of c.args.mesh.now.setup.machine in
    let i = c.loop-index.index in
    let before = c.args.waiting.now.items in
    c.in_ok-put_chip.ensures ∙ ap₂ (λ l m. l ++ m) c.loop-index.invariant (ap f (c.chip_at.ensures.chip ∙ ap (λ (m : Description). chip_of m i) c.machine-machine.ensures))
    ∙ flat_map_more f before (map g (range_with_len 0 i)) (g i)
    ∙ ap (λ l. before ++ flat_map f l) (sym (map-range_with_len_more g 0 i i (omega arith)))
