use Rattle.link_detours.proofs.Common.{All-contains, IfErr, IfErr-weaker, IsRepairCause, IsTreeChip, NoMemory, rules, ◌≡◌}
use Rattle.link_detours.proofs.{Pruning.tree_left, Unchanged.same_edges, Unchanged.unchanged, Unchanged.not_cut_off}
use Rattle.link_detours.proofs.repairs.repair.Goals as goal

pub returns-clause-repaired : goal.returns-clause-repaired
returns-clause-repaired c = record {
  kept = c.in_ok-kept.kept.items;
  kept_is = c.in_ok-kept.ensures.kept;
  whole = c.in_ok-whole.whole.items;
  joined = c.in_ok-whole.ensures.joined;
  result_is = rw c.from_vec.ensures c.in_ok-left.ensures.left;
  in_order = rw c.from_vec.ensures c.in_ok-left.ensures.in_order;
}

pub returns-clause-routing : goal.returns-clause-routing
returns-clause-routing c =
    let b = c.args.broken in
    rw c.from_vec.ensures
    (tree_left b.ground.machine.now b.root c.in_ok-whole.whole.items b.targets.now c.in_ok-left.left.items c.in_ok-whole.ensures.is_whole
    (λ t has. All-contains (IsTreeChip b.ground.machine.now b.root c.in_ok-whole.whole.items) b.targets.now t c.in_ok-whole.ensures.on_tree has)
    b.some_target c.in_ok-left.ensures.left c.in_ok-left.ensures.in_order)

pub returns-clause-same_edges : goal.returns-clause-same_edges
returns-clause-same_edges c tree = search (rules, same_edges, returns-clause-repaired)

pub returns-clause-unchanged : goal.returns-clause-unchanged
returns-clause-unchanged c tree ordered = search (rules, unchanged, returns-clause-repaired)

pub returns-in_err-whole-clause-not_cut_off : goal.returns-in_err-whole-clause-not_cut_off
returns-in_err-whole-clause-not_cut_off c tree =
    let b = c.args.broken in
    let cause : IfErr c.from_residual-in_err-whole.result (IsRepairCause b.ground.machine.now b.root b.targets.now) = search rules in
    IfErr-weaker c.from_residual-in_err-whole.result (IsRepairCause b.ground.machine.now b.root b.targets.now) (λ e. e ≡ NoMemory)
    (λ e. not_cut_off b.ground.machine.now b.root b.edges.now b.targets.now e tree) cause
