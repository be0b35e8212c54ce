use Rattle.app_loads.proofs.{Settling.parted_copy, Settling.parted_whole, Settling.ArePlain, Settling.settled_bare, Settling.parted_send, Settling.parted_settled, AppNets.routed}
use Rattle.app_loads.proofs.Common.{Description, ap, arith, subst, tables_in, with_items_is, ◌∙◌}
use Rattle.app_loads.proofs.loads.settle_mesh.Goals as goal

pub originals_of-requires : goal.originals_of-requires
originals_of-requires c = grind (arith, routed, routed c.args.mesh.setup.machine c.args.app.now c.requires.loaded c.requires.apart)

pub returns-then-is_empty-clause-settled : goal.returns-then-is_empty-clause-settled
returns-then-is_empty-clause-settled c = settled_bare c.args.mesh c.args.app.now c.requires (c.is_empty.ensures.0 c.if-is_empty.true)

pub send-requires : goal.send-requires
send-requires c = parted_send (c.parts.view_is ∙ c.take_apart-parts.ensures.parts) c.requires c.take_apart-parts.ensures.mesh c.deref_mut.ensures.value

pub returns-in-Ok-send-clause-settled : goal.returns-in-Ok-send-clause-settled
returns-in-Ok-send-clause-settled c =
    parted_settled (c.parts.view_is ∙ c.take_apart-parts.ensures.parts) c.requires c.take_apart-parts.ensures.mesh
    c.deref_mut.ensures.value (with_items_is c.parts.inside.unsent c.send.new.unsent (c.send.auto.unsent ∙ c.deref_mut.ensures.len)) c.in-Ok-send.ensures.sent c.install.ensures.setup
    c.put_together.ensures (subst (λ (m : Description). ArePlain m c.args.app.now (tables_in c.in-Ok.rows)) c.machine.ensures (c.in-Ok.ensures.long, c.in-Ok.ensures.plain))
    (ap tables_in c.as_slice-in-Ok-send.ensures) c.as_slice-in-Ok-send-2.ensures c.install.ensures.copied

pub install-requires : goal.install-requires
install-requires c = grind (arith, parted_copy, ArePlain)

pub put_together-requires : goal.put_together-requires
put_together-requires c = grind (arith, parted_whole, with_items_is)
