use Rattle.app_loads.proofs.Common.{AreTaken, List, Range, subst, sym}
use Rattle.app_loads.proofs.regions.take_all.Goals as goal

pub returns-in-Err-clause-back : goal.returns-in-Err-clause-back
returns-in-Err-clause-back c taken apart free =
    c.give_all.ensures.free c.args.machine.now taken
    (subst (λ (l : List Range). AreTaken c.args.machine.now taken l c.take_each.new.regions) (sym c.deref.ensures.value) (c.take_each.ensures.taken taken apart free))
