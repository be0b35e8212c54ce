use Rattle.plan_check.proofs.Common.{All, All-append, All-map, AreMarks, Edge, IsInside, IsMarkedChip, IsReachedChip, IsRoutingTree, Spot, answers_no, arith, fails, sym, ◌∙◌}
use Rattle.plan_check.proofs.TreeLaws.{begins_marked, targets_marked, is_tree_tells, once_of, once_inside, has_inside}
use Rattle.plan_check.proofs.trees.is_routed.Goals as goal

pub returns-then-not-branch : goal.returns-then-not-branch
returns-then-not-branch c = grind (arith, answers_no, fails, once_of)

pub invariant_of-tree : goal.invariant_of-tree
invariant_of-tree c = grind (arith, once_inside c.args.rooted.machine.now c.args.rooted.root c.args.edges.now (c.in_ok-enters_once.ensures.0 c.if-not-branch.false))

pub invariant_of-marks : goal.invariant_of-marks
invariant_of-marks c = record { long = rw c.deref.ensures.value c.in_ok-reached.ensures.long }

pub returns-then-not-all_begin : goal.returns-then-not-all_begin
returns-then-not-all_begin c =
    let m = c.args.rooted.machine.now in
    let marks : AreMarks m (IsReachedChip m c.args.edges.now c.args.rooted.root) c.in_ok-reached.reached.items = record { long = c.in_ok-reached.ensures.long; told = c.in_ok-reached.ensures.reach } in
    answers_no (IsRoutingTree m c.args.rooted.root c.args.edges.now c.args.targets.now) (λ tree.
    fails (All (λ (e : Edge). IsMarkedChip m c.deref.result.now e.chip) c.args.edges.now) c.all_begin.result c.all_begin.ensures c.if-not-all_begin.true
    (rw c.deref.ensures.value (begins_marked m c.args.rooted.root c.args.edges.now c.args.targets.now c.in_ok-reached.reached.items c.args.rooted.inside marks tree)))

pub returns-then-not-has_all : goal.returns-then-not-has_all
returns-then-not-has_all c =
    let m = c.args.rooted.machine.now in
    let marks : AreMarks m (IsReachedChip m c.args.edges.now c.args.rooted.root) c.in_ok-reached.reached.items = record { long = c.in_ok-reached.ensures.long; told = c.in_ok-reached.ensures.reach } in
    answers_no (IsRoutingTree m c.args.rooted.root c.args.edges.now c.args.targets.now) (λ tree.
    fails (All (λ (s : Spot). IsMarkedChip m c.deref.result.now s.chip) c.args.targets.now) c.has_all.result c.has_all.ensures c.if-not-has_all.true
    (rw c.deref.ensures.value (targets_marked m c.args.rooted.root c.args.edges.now c.args.targets.now c.in_ok-reached.reached.items c.args.rooted.inside marks tree)))

pub invariant_of-seeds : goal.invariant_of-seeds
invariant_of-seeds c =
    let m = c.args.rooted.machine.now in
    let targets = has_inside m c.deref.result.now c.args.targets.now (c.has_all.ensures.0 c.if-not-has_all.false) in
    let edges = once_inside m c.args.rooted.root c.args.edges.now (c.in_ok-enters_once.ensures.0 c.if-not-branch.false) in
    record {
      inside = rw (c.deref-2.ensures.value, c.in_ok-chips.ensures)
          (All-append (IsInside m) _ _ (All-map (IsInside m) (λ (s : Spot). s.chip) c.args.targets.now targets) (All-map (IsInside m) (λ (e : Edge). e.chip) c.args.edges.now edges));
    }

pub each_goes_on-requires : goal.each_goes_on-requires
each_goes_on-requires c = rw (c.deref.ensures.value, c.deref-3.ensures.value) (c.in_ok-on.ensures.long ∙ sym c.in_ok-reached.ensures.long)

pub returns : goal.returns
returns c =
    let m = c.args.rooted.machine.now in
    let reached = c.in_ok-reached.reached.items in
    let once = c.in_ok-enters_once.ensures.0 c.if-not-branch.false in
    let begin = rw c.deref.ensures.value at (c.all_begin.ensures.0 c.if-not-all_begin.false) in
    let has = rw c.deref.ensures.value at (c.has_all.ensures.0 c.if-not-has_all.false) in
    is_tree_tells m c.args.rooted.root c.args.edges.now c.args.targets.now reached c.args.rooted.inside
    (record { long = c.in_ok-reached.ensures.long; told = c.in_ok-reached.ensures.reach }) c.in_ok-on.on.items once begin has
    (record { long = c.in_ok-on.ensures.long; told = rw (c.deref-2.ensures.value, c.in_ok-chips.ensures) at c.in_ok-on.ensures.seeds })
    c.each_goes_on.result (rw (c.deref.ensures.value, c.deref-3.ensures.value) at c.each_goes_on.ensures)
