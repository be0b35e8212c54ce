use Rattle.par_compile.proofs.Common.{AreRight, Entry, IfOk-weaker, List, NetPlan, arith, loaded_of, map, subst, sym, ◌≡◌}
use Rattle.par_compile.proofs.Imaged.{all_loaded, read_again}
use Rattle.par_compile.proofs.images.memories_of.Goals as goal

pub returns-in-Ok-clause-loaded : goal.returns-in-Ok-clause-loaded
returns-in-Ok-clause-loaded c = grind (arith, IfOk-weaker, all_loaded, read_again)

pub returns-in-Ok-clause-right : goal.returns-in-Ok-clause-right
returns-in-Ok-clause-right c =
    IfOk-weaker c.load.result (λ memories. memories ≡ map loaded_of c.args.finals.now)
    (λ memories. (nets : List NetPlan) → AreRight c.args.machine.now (map loaded_of c.args.finals.now) nets → AreRight c.args.machine.now memories nets)
    (λ memories is nets right. subst (λ (ms : List (List Entry)). AreRight c.args.machine.now ms nets) (sym is) right)
    (returns-in-Ok-clause-loaded c)
