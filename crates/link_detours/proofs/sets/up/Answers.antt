use Rattle.link_detours.proofs.Common.{arith, one_shl, pow_pos, rules, ◌-◌}
use Rattle.link_detours.proofs.TurnedWords.{up_inside, up_round}
use Rattle.link_detours.proofs.sets.up.Goals as goal

pub overflow_sub-result : goal.overflow_sub-result
overflow_sub-result c = grind (arith, one_shl (c.args.ring.size - 1) 64 (omega arith), pow_pos (c.args.ring.size - 1))

pub returns-clause-inside : goal.returns-clause-inside
returns-clause-inside c = search (rules, up_inside, one_shl)

pub returns-clause-round : goal.returns-clause-round
returns-clause-round c = search (rules, up_round, one_shl)
