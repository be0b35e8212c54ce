use Rattle.app_loads.proofs.Common.{AreBlocksOf, AreRoutedApart, List, NetPlan, all_plain_tables, arith, nets_of, subst, sym, tables_in, take_all, ◌≡◌}
use Rattle.app_loads.proofs.{Resting.nets_with_long, rows.originals_of.Goals.After-loop-at}
use Rattle.app_loads.proofs.rows.originals_of.Goals as goal

whole : (c : After-loop-at) → c.loop-at.nets ≡ nets_of c.args.app.now
whole c = grind (arith, nets_with_long, take_all)

pub original_blocks-requires : goal.original_blocks-requires
original_blocks-requires c = subst (AreRoutedApart c.args.machine.now) (sym (whole (goal.at.original_blocks-requires c).After-loop-at)) c.requires.routed

pub returns : goal.returns
returns c =
    let made =
    all_plain_tables c.args.machine.now (nets_of c.args.app.now) c.in_ok-blocks.blocks (tables_in c.in_ok-originals.originals) c.requires.routed
    (subst (λ (l : List NetPlan). AreBlocksOf c.args.machine.now l c.in_ok-blocks.blocks) (whole (goal.at.returns c).After-loop-at) c.in_ok-blocks.ensures.blocks)
    (rw c.into_vec.ensures at c.in_ok-originals.ensures) in
    record { long = made.long; plain = made.plain }
