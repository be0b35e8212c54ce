use Rattle.mesh_drain.proofs.Common.{State, ap, ◌∙◌}
use Rattle.mesh_drain.proofs.{Frame.dumped_reached, Moving.after_moved, Moving.after_setup, Moving.moved_then, Moving.kept_moved, Vertices.drops_none, Vertices.drops_then}
use Rattle.mesh_drain.proofs.draining.drain.Goals as goal

pub send_each-requires : goal.send_each-requires
send_each-requires c = record { kept = kept_moved c.args.mesh.now c.settle.new.mesh c.requires c.settle.ensures.moved; quiet = c.in_ok-settle.ensures.quiet }

pub returns-clause-moved : goal.returns-clause-moved
returns-clause-moved c = moved_then c.args.mesh.now c.settle.new.mesh c.send_each.new.mesh c.settle.ensures.moved c.send_each.ensures.reached

pub returns-clause-roomy : goal.returns-clause-roomy
returns-clause-roomy c = λ numbers only roomy.
    let kept = c.requires in
    let moved = moved_then c.args.mesh.now c.settle.new.mesh c.send_each.new.mesh c.settle.ensures.moved c.send_each.ensures.reached in
    ap (λ (s : State). s.dumped) moved.is
    ∙ c.a_roomy_mesh_drops_nothing.ensures.no_record c.args.mesh.now kept.nets kept.labels numbers moved.events kept.mesh kept.right kept.ledger only roomy

pub returns-in_err-settle-clause-roomy : goal.returns-in_err-settle-clause-roomy
returns-in_err-settle-clause-roomy c = λ numbers only roomy.
    let kept = c.requires in
    let moved = c.settle.ensures.moved in
    ap (λ (s : State). s.dumped) moved.is
    ∙ c.a_roomy_mesh_drops_nothing.ensures.no_record c.args.mesh.now kept.nets kept.labels numbers moved.events kept.mesh kept.right kept.ledger only roomy

pub returns-clause-links : goal.returns-clause-links
returns-clause-links c = drops_then _ _ _ (after_setup _ _ (after_moved _ _ c.settle.ensures.moved)) c.settle.ensures.links (drops_none _ _ (dumped_reached _ _ c.send_each.ensures.reached))
