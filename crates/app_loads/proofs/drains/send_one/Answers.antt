use Rattle.app_loads.proofs.Common.{ap, length, all_grouped}
use Rattle.app_loads.proofs.Kept.{brought_more, sent_clean}
use Rattle.app_loads.proofs.drains.send_one.Goals as goal

pub returns-clause-clean : goal.returns-clause-clean
returns-clause-clean c =
    sent_clean (all_grouped c.args.earlier.now) (all_grouped c.keep.new.earlier) c.args.mesh.now c.send_first.new.mesh c.keep.new.mesh
    c.requires.clean c.send_first.ensures.reached c.keep.ensures.mesh c.keep.ensures.all
    c.in_ok-send_first.ensures.quiet c.in_ok-keep.ensures.none

pub returns-clause-brought : goal.returns-clause-brought
returns-clause-brought c copy rest at =
    brought_more (all_grouped c.args.earlier.now) (all_grouped c.keep.new.earlier) c.args.mesh.now c.send_first.new.mesh c.keep.new.mesh c.requires.clean c.send_first.ensures.reached
    c.keep.ensures.mesh c.keep.ensures.all
    c.args.vertex copy.key (length c.delivered-come.result.now) c.in_ok-keep.ensures.none (ap length c.delivered-come.ensures) (c.in_ok-send_first.ensures.brought copy rest at)
