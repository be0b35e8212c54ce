-- Each way to choose.
use Rattle.table_rules.proofs.Common.{arith, few, fewer, many, no_fewer}
use Rattle.table_rules.proofs.choosing.shorter_of.Goals as goal

pub returns-then-len-target : goal.returns-then-len-target
returns-then-len-target c = few (omega arith)

pub returns-then-pieces-gt-MOST_JOINED : goal.returns-then-pieces-gt-MOST_JOINED
returns-then-pieces-gt-MOST_JOINED c = many (omega arith)

pub returns-then-len : goal.returns-then-len
returns-then-len c = fewer c.in_ok-joined.joined (omega arith) (omega arith) c.in_ok-joined.ensures (omega arith)

pub returns : goal.returns
returns c = no_fewer c.in_ok-joined.joined c.in_ok-joined.ensures (omega arith)
