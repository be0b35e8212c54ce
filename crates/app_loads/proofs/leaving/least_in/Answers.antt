use Rattle.app_loads.proofs.Common.{McCopy, YieldsList-from_slice, fold_from_yields_List, lesser_of, own_packet, rules, ◌∙◌}
use Rattle.app_loads.proofs.LeavingLeast.{copies_folded}
use Rattle.app_loads.proofs.leaving.least_in.Goals as goal

pub returns : goal.returns
returns c =
    fold_from_yields_List _ (λ o (k : McCopy). lesser_of o (own_packet c.args.app.now k.packet)) c.args.so_far c.fold.result c.fold.ensures.ran
    (YieldsList-from_slice c.args.copies.now cc) (λ a x b q k. search rules)
    ∙ copies_folded c.args.app.now c.args.copies.now c.args.so_far
