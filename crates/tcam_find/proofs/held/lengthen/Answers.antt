use Rattle.std.proofs.Common.{rules}
use Rattle.tcam_find.proofs.MemoryLemmas.{lengthened_more, lengthened_none}
use Rattle.tcam_find.proofs.held.lengthen.Goals as goal

pub loop-groups-init : goal.loop-groups-init
loop-groups-init c = record { same = λ few. lengthened_none c.args.groups.now.items; room = search }

pub loop-groups-preserved : goal.loop-groups-preserved
loop-groups-preserved c = search (rules, lengthened_more)
