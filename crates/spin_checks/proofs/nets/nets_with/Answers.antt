use Rattle.spin_checks.proofs.Common.{All-weaker, arith}
use Rattle.spin_checks.proofs.{Refusing.key_due, Refusing.place_due, Refusing.refused_nets, Sites.all_on_sites}
use Rattle.spin_checks.proofs.nets.nets_with.Goals as goal

pub returns-in-Err-clause-none : goal.returns-in-Err-clause-none
returns-in-Err-clause-none c = place_due _ _ _ _ _ c.in-Err.ensures.no_room c.vertex_in.ensures c.place_refusal.ensures

pub returns-in-Err-clause-refused : goal.returns-in-Err-clause-refused
returns-in-Err-clause-refused c = refused_nets c.args.machine.now c.args.graph.now c.args.trees.now _ tt (returns-in-Err-clause-none c)

pub returns-in-Err-keys-clause-none : goal.returns-in-Err-keys-clause-none
returns-in-Err-keys-clause-none c = key_due _ _ _ _ c.in-Ok.ensures.placed _ _ _ c.in-Err-keys.ensures.keys_out c.net_in.ensures c.key_refusal.ensures

pub returns-in-Err-keys-clause-refused : goal.returns-in-Err-keys-clause-refused
returns-in-Err-keys-clause-refused c = refused_nets c.args.machine.now c.args.graph.now c.args.trees.now _ tt (returns-in-Err-keys-clause-none c)

pub invariant_of-handed : goal.invariant_of-handed
invariant_of-handed c = grind (arith, All-weaker)

pub returns-in-Ok-plans_with-clause-nets : goal.returns-in-Ok-plans_with-clause-nets
returns-in-Ok-plans_with-clause-nets c = grind arith

pub returns-in-Ok-plans_with-clause-sites : goal.returns-in-Ok-plans_with-clause-sites
returns-in-Ok-plans_with-clause-sites c =
    all_on_sites _ _ c.in-Ok.ensures.sites _ _ _ _ c.in-Ok-keys.ensures.blocks.all c.requires.one_tree_each c.in-Ok-plans_with.ensures.long c.in-Ok-plans_with.ensures.each

pub returns-in-Ok-plans_with-clause-refused : goal.returns-in-Ok-plans_with-clause-refused
returns-in-Ok-plans_with-clause-refused c =
    refused_nets c.args.machine.now c.args.graph.now c.args.trees.now _ (returns-in-Ok-plans_with-clause-nets c) tt
