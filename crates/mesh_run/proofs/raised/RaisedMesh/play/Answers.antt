use Rattle.mesh_run.proofs.Common.{arith, refl, ◌+◌}
use Rattle.mesh_run.proofs.{Raising.copies_self, Raising.known_up, Raising.roomy_with, Raising.with_links, Resting.after_refusal}
use Rattle.mesh_run.proofs.raised.RaisedMesh.play.Goals as goal

pub widen_all-requires : goal.widen_all-requires
widen_all-requires g c = let r = c.requires in (r.2.ends, r.2.holds, known_up r.0 c.args.self.now c.places_of-places.result.cap r.2 c.places_of-places.ensures.cap)

pub returns-in_err-widen_all-clause-back : goal.returns-in_err-widen_all-clause-back
returns-in_err-widen_all-clause-back g c =
    let r = c.args.self.now in
    after_refusal c.from_residual.result _ (λ m mesh raised.
    with_links m 0 0 r c.widen_all.new.standing r.shares r.logs c.places_of-places.result.cap raised (omega arith) c.places_of-places.ensures.cap
    (c.in_err-widen_all.ensures.back raised.ends raised.holds) (copies_self r.shares.items) refl refl)

pub returns-in_err-make_room_in_all-clause-back : goal.returns-in_err-make_room_in_all-clause-back
returns-in_err-make_room_in_all-clause-back g c =
    let r = c.args.self.now in
    after_refusal c.from_residual-in_err-make_room_in_all.result _ (λ m mesh raised.
    with_links m (c.places_of-places.result.turns + 1) 0 r c.widen_all.new.standing c.make_room_in_all.new.shares r.logs c.places_of-places.result.cap raised (omega arith)
    c.places_of-places.ensures.cap (c.in_ok-widen_all.ensures.wide raised.ends raised.holds) c.make_room_in_all.ensures refl refl)

pub returns-in_err-make_room-clause-back : goal.returns-in_err-make_room-clause-back
returns-in_err-make_room-clause-back g c =
    after_refusal c.from_residual-in_err-make_room.result _ (λ m mesh raised.
    with_links m (c.places_of-places.result.turns + 1) 0 c.args.self.now c.widen_all.new.standing c.make_room_in_all.new.shares c.make_room.new.self c.places_of-places.result.cap raised
    (omega arith) c.places_of-places.ensures.cap (c.in_ok-widen_all.ensures.wide raised.ends raised.holds) c.make_room_in_all.ensures c.make_room.ensures.delivered c.make_room.ensures.dumped)

pub play_roomy-requires-after_bounds : goal.play_roomy-requires-after_bounds
play_roomy-requires-after_bounds g c κs within = grind (arith, roomy_with)

pub returns-clause-played : goal.returns-clause-played
returns-clause-played g c = grind (arith, roomy_with)
