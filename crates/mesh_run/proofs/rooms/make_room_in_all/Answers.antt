use Rattle.mesh_run.proofs.Common.{SameCopies, arith, length, refl, ◌+◌, ◌<◌, ◌∙◌}
use Rattle.mesh_run.proofs.{Going.gone_more, Raising.copies_so_far}
use Rattle.mesh_run.proofs.rooms.make_room_in_all.Goals as goal

pub returns-in_err-make_room : goal.returns-in_err-make_room
returns-in_err-make_room c =
    let end = c.len-number-end.ensures ∙ c.args.shares.now.ok.0 in
    let below : c.loop-number.number < length c.loop-number.shares.items = omega (arith, c.loop-number.invariant.long, end, c.loop-number-test.true) in
    copies_so_far c.args.shares.now.items _ (c.loop-number.number + 1)
    (gone_more SameCopies c.args.shares.now.items c.loop-number.shares.items _ c.loop-number.number c.index_mut.result.now c.make_room.new.self c.loop-number.invariant below
    c.index_mut.ensures.value refl c.make_room.ensures)
