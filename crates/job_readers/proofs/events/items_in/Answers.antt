use Rattle.job_readers.proofs.Common.{arith, map, view}
use Rattle.job_readers.proofs.RunSteps.{items_read}
use Rattle.job_readers.proofs.events.items_in.Goals as goal

pub returns-in-Some : goal.returns-in-Some
returns-in-Some c = grind (arith, items_read (view c.args.item.now) (map view c.in-Some.items.now.items) c.in-Some.ensures)
