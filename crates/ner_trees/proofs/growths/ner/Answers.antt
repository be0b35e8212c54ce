use Rattle.ner_trees.proofs.Common.{Chip, Description, HasSize, IsJoinedBy, List, TellsTree, arith, refl, subst, sym, take, ◌+◌, ◌∙◌}
use Rattle.ner_trees.proofs.Growing.{GrownSoFar, Finished, so_far_start, so_far_more, finished_at}
use Rattle.ner_trees.proofs.growths.ner.Goals as goal

pub loop-target-init : goal.loop-target-init
loop-target-init c = grind (arith, so_far_start)

pub loop-target-preserved : goal.loop-target-preserved
loop-target-preserved c =
    let m = c.args.ends.machine.now in
    let root = c.args.ends.root in
    let old = c.loop-target.tree in
    let new = c.add_target.new.tree in
    let j = c.in_ok-add_target.field-0 in
    let tells : TellsTree m root new.on.items.items new.edges.items =
    subst (λ (k : Description). TellsTree k root new.on.items.items new.edges.items) c.loop-target.invariant.machine
    (subst (λ (r : Chip). TellsTree old.on.machine.now r new.on.items.items new.edges.items) c.loop-target.invariant.root c.in_ok-add_target.ensures.on_is) in
    let joined : IsJoinedBy m root old.edges.items j new.edges.items =
    subst (λ (k : Description). IsJoinedBy k root old.edges.items j new.edges.items) c.loop-target.invariant.machine
    (subst (λ (r : Chip). IsJoinedBy old.on.machine.now r old.edges.items j new.edges.items) c.loop-target.invariant.root c.in_ok-add_target.ensures.joined) in
    record {
      machine = c.in_ok-add_target.ensures.machine ∙ c.loop-target.invariant.machine;
      root = c.in_ok-add_target.ensures.root ∙ c.loop-target.invariant.root;
      grown =
          subst (λ (ts : List Chip). GrownSoFar m root new.on.items.items new.edges.items c.push.new.self (take (c.loop-target.target-index + 1) ts)) c.as_slice-target-items.ensures
          (so_far_more m root old.on.items.items new.on.items.items old.edges.items new.edges.items c.loop-target.joins c.push.new.self c.as_slice-target-items.result.now
          c.loop-target.target-index _ j c.loop-target-test.true tells c.in_ok-add_target.ensures.target joined c.in_ok-push.ensures.ok
          (subst (λ (ts : List Chip). GrownSoFar m root old.on.items.items old.edges.items c.loop-target.joins (take c.loop-target.target-index ts)) (sym c.as_slice-target-items.ensures)
          c.loop-target.invariant.grown));
    }

pub returns : goal.returns
returns c =
    let done : Finished c.args.ends.machine.now c.args.ends.root c.args.ends.targets.now c.loop-target.joins c.from_vec.result =
    finished_at c.args.ends.machine.now c.args.ends.root c.args.ends.targets.now c.as_slice-target-items.result.now c.loop-target.joins c.loop-target.tree.on.items.items
    c.loop-target.tree.edges.items c.in_ok-in_order.field-0.items c.from_vec.result c.loop-target.target-index
    (subst HasSize c.loop-target.invariant.machine c.loop-target.tree.on.size) c.args.ends.root_inside c.args.ends.targets_inside
    c.as_slice-target-items.ensures c.loop-target-test.false c.loop-target.invariant.grown c.in_ok-in_order.ensures.same_edges c.in_ok-in_order.ensures.in_order
    c.from_vec.ensures in
    record {
      root = refl;
      grown = done.is_grown;
      edges_inside = done.inside;
      none_into_root = done.none_into_root;
      one_into_each = done.one_into_each;
      few_edges = done.few;
      whole = done.live;
      routing = done.routing;
    }

pub add_target-requires-clause-target_inside : goal.add_target-requires-clause-target_inside
add_target-requires-clause-target_inside c = grind arith

pub add_target-requires-clause-on_is : goal.add_target-requires-clause-on_is
add_target-requires-clause-on_is c = rw (c.loop-target.invariant.machine, c.loop-target.invariant.root) c.loop-target.invariant.grown.on_is
