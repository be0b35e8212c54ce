use Rattle.ner_trees.proofs.Common.{Description, None, Some, arith, end_of, far_inside, get_or, length, subst, sym, take_all, ◌*◌, ◌∙◌, ◌≡◌}
use Rattle.ner_trees.proofs.{Cutting.marked_more, Cutting.marked_past, cuts.mark.Goals.in-Some+in_ok-set, cuts.mark.Goals.in_default}
use Rattle.ner_trees.proofs.cuts.mark.Goals as goal

pub far-requires : goal.far-requires
far-requires c = rw c.machine-machine.ensures (c.requires _ _ c.loop-link-test.true)

pub set-requires : goal.set-requires
set-requires c = grind (arith, far_inside c.args.on.now.machine.now _ c.in-Some.chip _ (c.requires _ _ c.loop-link-test.true) (rw c.machine-machine.ensures at (sym c.far.ensures ∙ c.in-Some.is)))

pub loop-link-preserved : goal.loop-link-preserved
loop-link-preserved c =
    let m = c.args.on.now.machine.now in
    elim c.match-far.branch [
      | in-Some+in_ok-set w ↦
          let long : length c.loop-link.on.items.items ≡ m.width * m.height =
          subst (λ (k : Description). length c.loop-link.on.items.items ≡ k.width * k.height) c.loop-link.invariant.0 c.loop-link.on.long in
          let leads : end_of m (get_or c.args.links.now c.loop-link.link-index _) ≡ Some w.in-Some.chip = rw c.machine-machine.ensures at (sym c.far.ensures ∙ w.in-Some.is) in
          rw w.on-is (
            w.set.ensures.machine ∙ c.loop-link.invariant.0,
            rw (w.in_ok-set.ensures.items, c.loop-link.invariant.0)
                (marked_more m c.args.on.now.items.items c.loop-link.on.items.items c.args.links.now c.loop-link.link-index _ w.in-Some.chip c.loop-link-test.true long
                (c.requires _ _ c.loop-link-test.true) leads c.loop-link.invariant.1),
          )
      | in_default w ↦
          let nowhere : end_of m (get_or c.args.links.now c.loop-link.link-index _) ≡ None = rw c.machine-machine.ensures at (sym c.far.ensures ∙ w.in_default.is) in
          rw w.on-is (
            c.loop-link.invariant.0,
            marked_past m c.args.on.now.items.items c.loop-link.on.items.items c.args.links.now c.loop-link.link-index _ c.loop-link-test.true nowhere c.loop-link.invariant.1,
          )
    ]

pub returns-clause-marked : goal.returns-clause-marked
returns-clause-marked c = rw (take_all c.loop-link.link-index c.args.links.now c.loop-link-test.false) at c.loop-link.invariant.1
