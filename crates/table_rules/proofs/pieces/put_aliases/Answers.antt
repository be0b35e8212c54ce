-- One alias more.
use Rattle.table_rules.proofs.Common.{rules}
use Rattle.table_rules.proofs.JoinTurns.{aliases_all}
use Rattle.table_rules.proofs.pieces.put_aliases.Goals as goal

pub returns : goal.returns
returns c = search (rules, aliases_all)
