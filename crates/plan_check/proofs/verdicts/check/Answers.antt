use Rattle.plan_check.proofs.Common.{IsVerdict, subst}
use Rattle.plan_check.proofs.Lookups.{right_told, wrong_told}
use Rattle.plan_check.proofs.verdicts.check.Goals as goal

pub returns-clause-right : goal.returns-clause-right
returns-clause-right c = λ is memories loaded.
    right_told c.args.grid.machine.now c.args.grid.image.now memories c.args.grid.width c.args.grid.height loaded c.args.nets.now c.verdict_of.result c.requires.routed
    (subst (λ nets. IsVerdict c.args.grid.machine.now nets c.args.grid.image.now c.verdict_of.result) c.as_slice.ensures c.verdict_of.ensures) is

pub returns-clause-wrong : goal.returns-clause-wrong
returns-clause-wrong c = λ i chip key is memories loaded.
    wrong_told c.args.grid.machine.now c.args.grid.image.now memories c.args.grid.width c.args.grid.height loaded c.args.nets.now c.verdict_of.result i chip key c.requires.routed
    (subst (λ nets. IsVerdict c.args.grid.machine.now nets c.args.grid.image.now c.verdict_of.result) c.as_slice.ensures c.verdict_of.ensures) is
