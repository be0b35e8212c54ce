use Rattle.net_tables.proofs.Common.{far_inside, rules, sym, ◌∙◌}
use Rattle.net_tables.proofs.{Trees.edge_in, Trees.root_in, Taking.taken_first, Taking.taken_more, Taking.taken_same, Taking.taken_all, Taking.ports_clear, Taking.routes_clear, Taking.all_grown}
use Rattle.net_tables.proofs.gather.take_marks.Goals.{in-Some+in_ok-take_mark-2, in_default}
use Rattle.net_tables.proofs.gather.take_marks.Goals as goal

pub index-root-requires : goal.index-root-requires
index-root-requires c = root_in _ _ c.args.plan.routed

pub index-place-requires : goal.index-place-requires
index-place-requires c =
    far_inside c.args.plan.machine.now _ c.in-Some.chip _
    (edge_in _ _ c.args.plan.routed _ c.as_slice-edge-items.ensures c.loop-edge.edge-index _ c.loop-edge-test.true) (sym c.far.ensures ∙ c.in-Some.is)

pub loop-edge-init : goal.loop-edge-init
loop-edge-init c =
    taken_first c.args.plan.machine.now c.args.plan.net.now.tree.root c.args.plan.net.now.tree.edges c.args.plan.net.now.block _ _ c.index-root.result c.index-root.ensures.value
    (search rules)
    (search rules)

pub loop-edge-preserved : goal.loop-edge-preserved
loop-edge-preserved c = elim c.match-far.branch [
  | in-Some+in_ok-take_mark-2 w ↦
      rw (w.ports-is, w.routes-is, w.lists-is) (
      taken_more c.args.plan.machine.now c.args.plan.net.now.tree.root c.as_slice-edge-items.result.now c.args.plan.net.now.tree.edges c.loop-edge.edge-index _
      c.args.plan.net.now.block _ _ c.as_slice-edge-items.ensures c.loop-edge-test.true w.in-Some.chip _ w.index-place.result (sym c.far.ensures ∙ w.in-Some.is) w.index-place.ensures.value
      (search rules)
      (search rules)
      c.loop-edge.invariant
      )
  | in_default w ↦
      rw (w.ports-is, w.routes-is, w.lists-is) (
      taken_same c.args.plan.machine.now c.args.plan.net.now.tree.root c.as_slice-edge-items.result.now c.args.plan.net.now.tree.edges c.loop-edge.edge-index _ c.args.plan.net.now.block _ _
      c.as_slice-edge-items.ensures c.loop-edge-test.true (sym c.far.ensures ∙ w.in_default.is) c.loop-edge.invariant
      )
]

pub returns-clause-no_port : goal.returns-clause-no_port
returns-clause-no_port c =
    ports_clear c.args.plan.machine.now c.args.plan.net.now _ _ c.requires.boards.ports_told c.requires.boards.clear_off
    (taken_all c.args.plan.machine.now c.args.plan.net.now.tree.root c.as_slice-edge-items.result.now c.args.plan.net.now.tree.edges c.loop-edge.edge-index c.args.plan.net.now.block _ _
    c.as_slice-edge-items.ensures c.loop-edge-test.false c.loop-edge.invariant) c.requires.boards.ports_long

pub returns-clause-no_route : goal.returns-clause-no_route
returns-clause-no_route c =
    routes_clear c.args.plan.machine.now c.args.plan.net.now _ _ c.requires.boards.ports_told c.requires.boards.clear_off
    (taken_all c.args.plan.machine.now c.args.plan.net.now.tree.root c.as_slice-edge-items.result.now c.args.plan.net.now.tree.edges c.loop-edge.edge-index c.args.plan.net.now.block _ _
    c.as_slice-edge-items.ensures c.loop-edge-test.false c.loop-edge.invariant) c.requires.boards.routes_long

pub returns-clause-grown : goal.returns-clause-grown
returns-clause-grown c =
    all_grown c.args.plan.machine.now c.args.plan.net.now _ _ c.requires.boards.ports_told c.requires.boards.clear_off
    (taken_all c.args.plan.machine.now c.args.plan.net.now.tree.root c.as_slice-edge-items.result.now c.args.plan.net.now.tree.edges c.loop-edge.edge-index c.args.plan.net.now.block _ _
    c.as_slice-edge-items.ensures c.loop-edge-test.false c.loop-edge.invariant) c.requires.boards.routes_told

pub far-requires : goal.far-requires
far-requires c = edge_in _ _ c.args.plan.routed _ c.as_slice-edge-items.ensures c.loop-edge.edge-index _ c.loop-edge-test.true
