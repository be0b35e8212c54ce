-- The part that starts so many places before is rotated.
use Rattle.cover_merge.proofs.ReplaceLemmas.{rotated_down}
use Rattle.cover_merge.proofs.applying.move_down.Goals as goal

pub returns-clause-front : goal.returns-clause-front
returns-clause-front c =
    (rotated_down c.args.from c.args.to c.args.by c.args.rows.now.len c.args.rows.now.items c.deref_mut.result.now c.rotate_left.new.self _
    c.requires.by c.requires.order c.requires.inside c.args.rows.now.ok.0 c.deref_mut.ensures.value c.rotate_left.ensures.after).front

pub returns-clause-rest : goal.returns-clause-rest
returns-clause-rest c =
    (rotated_down c.args.from c.args.to c.args.by c.args.rows.now.len c.args.rows.now.items c.deref_mut.result.now c.rotate_left.new.self _
    c.requires.by c.requires.order c.requires.inside c.args.rows.now.ok.0 c.deref_mut.ensures.value c.rotate_left.ensures.after).rest
