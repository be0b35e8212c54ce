use Rattle.ner_trees.proofs.Common.{arith, sym, ◌*◌, ◌+◌, ◌-◌}
use Rattle.ner_trees.proofs.Searching.{round_is}
use Rattle.ner_trees.proofs.searches.wrapped.Goals as goal

pub returns-then-ahead-places-2-clause-value : goal.returns-then-ahead-places-2-clause-value
returns-then-ahead-places-2-clause-value c =
    sym (round_is 21 c.args.centre.places (c.args.centre.place + c.args.offset.places - c.args.offset.radius.chips - c.args.centre.places) (c.args.centre.place + c.args.centre.places * 20 + c.args.offset.places - c.args.offset.radius.chips)
    (omega (arith, c.if-chips-place.true, c.if-ahead-places.false)) c.if-ahead-places-2.true)

pub returns-then-chips-place-2-clause-value : goal.returns-then-chips-place-2-clause-value
returns-then-chips-place-2-clause-value c =
    sym (round_is 19 c.args.centre.places (c.args.centre.places - (c.args.offset.radius.chips - (c.args.centre.place + c.args.offset.places))) (c.args.centre.place + c.args.centre.places * 20 + c.args.offset.places - c.args.offset.radius.chips)
    (omega (arith, c.if-chips-place.false, c.if-chips-place-2.true)) (omega (arith, c.if-chips-place.false, c.if-chips-place-2.true)))

pub returns-then-ahead-places-clause-value : goal.returns-then-ahead-places-clause-value
returns-then-ahead-places-clause-value c =
    sym (round_is 20 c.args.centre.places (c.args.centre.place + c.args.offset.places - c.args.offset.radius.chips) (c.args.centre.place + c.args.centre.places * 20 + c.args.offset.places - c.args.offset.radius.chips)
    (omega (arith, c.if-chips-place.true)) c.if-ahead-places.true)
