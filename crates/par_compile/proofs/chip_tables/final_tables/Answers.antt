use Rattle.par_compile.proofs.Common.{All, AllZip, Final, IfOk-weaker, IsFinalFor, KeepsRows, List, arith, length, take, ◌*◌, ◌≤◌}
use Rattle.par_compile.proofs.Righted.{all_final, all_keep, all_right, few_chips, few_entries, finals_within}
use Rattle.par_compile.proofs.chip_tables.final_tables.Goals as goal

pub finals-requires-after_bounds : goal.finals-requires-after_bounds
finals-requires-after_bounds g c κs within = grind (arith, few_chips c.args.request.now.machine.now c.chips-chips.ensures.size (length c.in_ok-blocks.blocks) c.in_ok-blocks.ensures.blocks.long)

pub returns-clause-all : goal.returns-clause-all
returns-clause-all g c = grind (arith, IfOk-weaker)

pub returns-clause-within : goal.returns-clause-within
returns-clause-within g c =
    IfOk-weaker c.finals.result (λ (fs : List Final). AllZip (IsFinalFor c.args.request.now.target) (take (length fs) c.in_ok-blocks.blocks) fs)
    (λ (fs : List Final). length fs ≤ c.args.request.now.machine.now.width * c.args.request.now.machine.now.height)
    (λ fs each. finals_within c.args.request.now.machine.now c.args.nets.now c.args.request.now.target c.in_ok-blocks.blocks fs c.in_ok-blocks.ensures.blocks each) c.finals.ensures.finals

pub returns-clause-few_chips : goal.returns-clause-few_chips
returns-clause-few_chips g c =
    IfOk-weaker c.finals.result (λ (fs : List Final). AllZip (IsFinalFor c.args.request.now.target) (take (length fs) c.in_ok-blocks.blocks) fs)
    (λ (fs : List Final). length fs ≤ 4096)
    (λ fs each.
    let within = finals_within c.args.request.now.machine.now c.args.nets.now c.args.request.now.target c.in_ok-blocks.blocks fs c.in_ok-blocks.ensures.blocks each in
    let total = c.chips-chips.ensures.total in let few = c.chips-chips.ensures.few in omega (arith, within, total, few)) c.finals.ensures.finals

pub returns-clause-finals : goal.returns-clause-finals
returns-clause-finals g c = grind (arith, IfOk-weaker, all_final)

pub returns-clause-kept : goal.returns-clause-kept
returns-clause-kept g c =
    IfOk-weaker c.finals.result (λ (fs : List Final). AllZip (IsFinalFor c.args.request.now.target) (take (length fs) c.in_ok-blocks.blocks) fs)
    (All KeepsRows)
    (λ fs each. all_keep c.args.request.now.machine.now c.args.nets.now c.args.request.now.target c.in_ok-blocks.blocks fs c.in_ok-blocks.ensures.blocks each c.requires.routed) c.finals.ensures.finals

pub returns-clause-few_rows : goal.returns-clause-few_rows
returns-clause-few_rows g c = grind (arith, IfOk-weaker, few_entries)

pub returns-clause-right : goal.returns-clause-right
returns-clause-right g c = grind (arith, IfOk-weaker, all_right)
