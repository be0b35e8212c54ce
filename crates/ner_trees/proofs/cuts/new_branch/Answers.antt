use Rattle.ner_trees.proofs.Common.{arith, false, sym, take_all, ◌∙◌}
use Rattle.ner_trees.proofs.{Cutting.at_more, Cutting.cut_again_at, Cutting.cut_more_at, cuts.new_branch.Goals.then-at, cuts.new_branch.Goals.else-at}
use Rattle.ner_trees.proofs.cuts.new_branch.Goals as goal

pub loop-dir-preserved : goal.loop-dir-preserved
loop-dir-preserved c = elim c.if-at.branch [
  | then-at w ↦
      rw (w.start-is, w.links-is)
      record {
        at_end = at_more c.args.near.on.now.machine.now c.args.near.chip c.args.walk.now c.loop-dir.dir-index _ c.loop-dir.at c.next-at.result c.loop-dir-test.true c.loop-dir.invariant.at_end (rw c.machine-machine.ensures at c.next-at.ensures.value);
        at_inside = (rw c.machine-machine.ensures at c.next-at.ensures.inside);
        cut = cut_again_at c.args.near.on.now.machine.now c.args.near.on.now.items.items c.args.near.chip c.args.walk.now c.loop-dir.dir-index _ c.loop-dir.at c.next-at.result w.clear-then-at.new.self.items
            c.loop-dir-test.true c.loop-dir.invariant.at_end (rw c.machine-machine.ensures at c.next-at.ensures.value) (rw c.machine-machine.ensures at c.next-at.ensures.inside)
            (sym (c.at.ensures false) ∙ w.if-at.true) w.clear-then-at.ensures.items;
      }
  | else-at w ↦
      rw (w.start-is, w.links-is)
      record {
        at_end = at_more c.args.near.on.now.machine.now c.args.near.chip c.args.walk.now c.loop-dir.dir-index _ c.loop-dir.at c.next-at.result c.loop-dir-test.true c.loop-dir.invariant.at_end (rw c.machine-machine.ensures at c.next-at.ensures.value);
        at_inside = (rw c.machine-machine.ensures at c.next-at.ensures.inside);
        cut = cut_more_at c.args.near.on.now.machine.now c.args.near.on.now.items.items c.args.near.chip c.args.walk.now c.loop-dir.dir-index _ c.loop-dir.at c.next-at.result c.loop-dir.start
            c.loop-dir.links.items c.push.new.self.items c.loop-dir-test.true c.loop-dir.invariant.at_end c.loop-dir.invariant.at_inside (rw c.machine-machine.ensures at c.next-at.ensures.value)
            (sym (c.at.ensures false) ∙ w.if-at.false) c.in_ok-push.ensures.items c.loop-dir.invariant.cut;
      }
]

pub next-at-requires : goal.next-at-requires
next-at-requires c = rw c.machine-machine.ensures c.loop-dir.invariant.at_inside

pub at-requires : goal.at-requires
at-requires c = rw c.machine-machine.ensures at c.next-at.ensures.inside

pub returns : goal.returns
returns c = grind (arith, take_all)
