-- A block that may take it in, or the end.
use Rattle.table_rules.proofs.Common.{arith, position-Some, position_nowhere}
use Rattle.table_rules.proofs.JoinTurns.{put_at_end, taken_in}
use Rattle.table_rules.proofs.joining.put_block.Goals as goal

pub returns-in-Some : goal.returns-in-Some
returns-in-Some c = grind (arith, position-Some, taken_in)

pub returns-in_ok-push-in-None : goal.returns-in_ok-push-in-None
returns-in_ok-push-in-None c = grind (arith, put_at_end, position_nowhere)
