use Rattle.ner_trees.proofs.Searching.{all_sides, at_offsets}
use Rattle.ner_trees.proofs.searches.better_at_step.Goals as goal

pub returns-clause-better : goal.returns-clause-better
returns-clause-better c =
    let s = c.args.six.ring.search in
    let m = s.on.now.machine.now in
    let on = s.on.now.items.items in
    let r = c.args.six.ring.radius.chips in
    let x = c.columns-x.ensures in
    let y = c.rows-y.ensures in
    all_sides m on s.target r c.args.six.step c.args.best c.better-one.result c.better-two.result c.better-three.result c.better-four.result c.better-five.result _
    (at_offsets m on s.target r _ _ _ _ _ _ x.first y.at_step c.better-one.ensures.better)
    (at_offsets m on s.target r _ _ _ _ _ _ x.at_step y.first c.better-two.ensures.better)
    (at_offsets m on s.target r _ _ _ _ _ _ x.at_step y.middle c.better-three.ensures.better)
    (at_offsets m on s.target r _ _ _ _ _ _ x.middle y.at_step c.better-four.ensures.better)
    (at_offsets m on s.target r _ _ _ _ _ _ x.middle y.last c.better-five.ensures.better)
    (at_offsets m on s.target r _ _ _ _ _ _ x.last y.middle c.better.ensures.better)
