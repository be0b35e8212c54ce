use Rattle.link_detours.proofs.Common.{arith, ◌-◌}
use Rattle.link_detours.proofs.TurnedWords.{down_inside, down_round}
use Rattle.link_detours.proofs.sets.down.Goals as goal

pub returns-clause-inside : goal.returns-clause-inside
returns-clause-inside c = λ y some within. down_inside c.args.word (c.args.ring.size - 1) y some (omega arith)

pub returns-clause-round : goal.returns-clause-round
returns-clause-round c = down_round c.args.word (c.args.ring.size - 1)
