use Rattle.net_tables.proofs.Common.{far_inside, length-set, subst, sym, ◌<◌, ◌∙◌}
use Rattle.net_tables.proofs.{Telling.ports_first, Telling.ports_more, Telling.ports_same, Telling.ports_all, Trees.edge_in, Trees.root_in, marks.set_ports.Goals.in-Some}
use Rattle.net_tables.proofs.marks.set_ports.Goals.{in_default}
use Rattle.net_tables.proofs.marks.set_ports.Goals as goal

pub loop-edge-init : goal.loop-edge-init
loop-edge-init c =
    ports_first c.args.plan.machine.now c.args.plan.net.now.tree.root c.args.plan.net.now.tree.edges c.index.result c.args.ports.now c.requires
    (root_in _ _ c.args.plan.routed) c.index.ensures.value c.index.ensures.below

pub index-requires : goal.index-requires
index-requires c = root_in _ _ c.args.plan.routed

pub far-requires : goal.far-requires
far-requires c = edge_in _ _ c.args.plan.routed _ c.as_slice-edge-items.ensures c.loop-edge.edge-index _ c.loop-edge-test.true

pub index-requires-in-Some : goal.index-requires-in-Some
index-requires-in-Some c =
    far_inside c.args.plan.machine.now _ c.in-Some.chip _
    (edge_in _ _ c.args.plan.routed _ c.as_slice-edge-items.ensures c.loop-edge.edge-index _ c.loop-edge-test.true) (sym c.far.ensures ∙ c.in-Some.is)

pub loop-edge-preserved : goal.loop-edge-preserved
loop-edge-preserved c = elim c.match-far.branch [
  | in-Some w ↦
      rw (w.ports-is, w.opposite.ensures.link) (
        length-set _ _ _ ∙ c.loop-edge.invariant.0,
        ports_more c.args.plan.machine.now c.args.plan.net.now.tree.root c.as_slice-edge-items.result.now c.args.plan.net.now.tree.edges c.loop-edge.edge-index _ w.in-Some.chip
            w.index-in-Some.result c.loop-edge.ports c.as_slice-edge-items.ensures c.loop-edge-test.true (sym c.far.ensures ∙ w.in-Some.is)
            (edge_in _ _ c.args.plan.routed _ c.as_slice-edge-items.ensures c.loop-edge.edge-index _ c.loop-edge-test.true)
            w.index-in-Some.ensures.value (subst (λ n. w.index-in-Some.result < n) (sym c.loop-edge.invariant.0) w.index-in-Some.ensures.below) c.loop-edge.invariant.1,
      )
  | in_default w ↦
      rw w.ports-is (
        c.loop-edge.invariant.0,
        ports_same c.args.plan.machine.now c.args.plan.net.now.tree.root c.as_slice-edge-items.result.now c.args.plan.net.now.tree.edges c.loop-edge.edge-index _ c.loop-edge.ports
            c.as_slice-edge-items.ensures c.loop-edge-test.true (sym c.far.ensures ∙ w.in_default.is) c.loop-edge.invariant.1,
      )
]

pub returns-clause-told : goal.returns-clause-told
returns-clause-told c =
    ports_all c.args.plan.machine.now c.args.plan.net.now.tree.root c.as_slice-edge-items.result.now c.args.plan.net.now.tree.edges c.loop-edge.edge-index c.loop-edge.ports
    c.as_slice-edge-items.ensures c.loop-edge-test.false c.loop-edge.invariant.1
