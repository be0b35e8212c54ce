use Rattle.link_detours.proofs.Common.{arith, far_inside, rules, sym, take_all, tree_cases}
use Rattle.link_detours.proofs.{Searching.cases_chip, Putting.bit_of, Putting.TellsTree-push, Putting.TellsTree-skip, Putting.TellsTree-taken, sets.put_tree.Goals.in-Some}
use Rattle.link_detours.proofs.sets.put_tree.Goals.{in_default}
use Rattle.link_detours.proofs.sets.put_tree.Goals as goal

pub loop-edge-init : goal.loop-edge-init
loop-edge-init c = grind (arith, cases_chip, tree_cases)

pub loop-edge-preserved : goal.loop-edge-preserved
loop-edge-preserved c = elim c.match-far.branch [
  | in-Some w ↦ record {
    long = search rules;
    told = rw w.set-is
        (TellsTree-taken c.args.edges.ground.machine.now c.args.edges.root c.args.edges.list.now c.loop-edge.edge-index _ w.put-in-Some.new.set c.loop-edge-test.true
        (TellsTree-push c.args.edges.ground.machine.now c.args.edges.root _ c.loop-edge.set w.put-in-Some.new.set _ w.in-Some.far (sym (w.in-Some.ensures))
        w.put-in-Some.ensures.here w.put-in-Some.ensures.others c.loop-edge.invariant.told));
  }
  | in_default w ↦ record {
    long = search rules;
    told = rw w.set-is
        (TellsTree-taken c.args.edges.ground.machine.now c.args.edges.root c.args.edges.list.now c.loop-edge.edge-index _ c.loop-edge.set c.loop-edge-test.true
        (TellsTree-skip c.args.edges.ground.machine.now c.args.edges.root _ c.loop-edge.set _ w.in_default.ensures c.loop-edge.invariant.told));
  }
]

pub returns : goal.returns
returns c = rw (take_all c.loop-edge.edge-index c.args.edges.list.now c.loop-edge-test.false) at c.loop-edge.invariant.told

pub far-requires : goal.far-requires
far-requires c = c.args.edges.inside _ _ c.loop-edge-test.true

pub put-requires : goal.put-requires
put-requires c = grind (arith, bit_of)

pub put-requires-in-Some : goal.put-requires-in-Some
put-requires-in-Some c = grind (arith, bit_of, far_inside)
