use Rattle.app_loads.proofs.Common.{AllPairs, IfOk, List, Spot, YieldsList-at, YieldsList-from_filter, YieldsList-from_map, YieldsList-from_range, arith, is_usable, items_from_collect, rules, spot_of}
use Rattle.app_loads.proofs.Common.{subst, sym, tests, usable_spots, ◌*◌, ◌∙◌, ◌≡◌, ◌≢◌}
use Rattle.app_loads.proofs.AppNets.{usable_different}
use Rattle.app_loads.proofs.opening.usable_spots.Goals as goal

pub returns-clause-spots : goal.returns-clause-spots
returns-clause-spots c =
    let m = c.args.machine.now in
    c.from_vec.ensures ∙ subst (λ o. IfOk o (λ w. w.items ≡ usable_spots m)) c.in_ok-spots.was
    (items_from_collect c.collect.result c.collect.ensures.ran
    (YieldsList-from_filter _ (is_usable m) (YieldsList-at c.filter.ensures.source
    (YieldsList-from_map _ (spot_of m) (YieldsList-from_range 0 _ (17 * (m.width * m.height)) c.map.ensures.source (omega (arith, c.chips.ensures.total))) c.map.ensures.closure
    (λ x r q k. search rules))) c.filter.ensures.closure (λ x b q k. search (rules, tests))))

pub returns-clause-different : goal.returns-clause-different
returns-clause-different c = subst (λ (l : List Spot). AllPairs (λ a b. a ≢ b) l) (sym (returns-clause-spots c)) (usable_different c.args.machine.now)
