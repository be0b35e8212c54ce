use Rattle.link_detours.proofs.Putting.{put_here, put_other}
use Rattle.link_detours.proofs.sets.put.Goals as goal

pub returns-clause-here : goal.returns-clause-here
returns-clause-here c = put_here c.args.set.now c.args.c c.from.result c.from.ensures c.requires.0 c.requires.1

pub returns-clause-others : goal.returns-clause-others
returns-clause-others c = put_other c.args.set.now c.args.c c.from.result c.from.ensures c.requires.0 c.requires.1
