use Rattle.std.proofs.Common.{◌≡◌, ◌+◌, eqb, true, false, bit_and, get_or, subst, arith}
use Rattle.tcam_find.proofs.MemoryLemmas.{route_found, route_missed}
use Rattle.tcam_find.proofs.groups.Group.route_of.Goals as goal

pub returns-then-lane-lt-LANES : goal.returns-then-lane-lt-LANES
returns-then-lane-lt-LANES c =
    let now = c.args.self.now in
    let lane = c.first_match-lane.result in
    route_found now.keys now.masks now.routes c.args.key lane c.index-self-lane.result
    (omega (arith, now.eight, c.if-lane-lt-LANES.true)) (omega (arith, now.eight, now.masked)) (omega (arith, now.eight, now.routed))
    (λ k before. let at : 0 + k ≡ k = omega arith in
    subst (λ n. eqb (bit_and c.args.key (get_or now.masks n 0)) (get_or now.keys n 0) ≡ false) at (c.first_match-lane.ensures.before k before))
    (let at : 0 + lane ≡ lane = omega arith in
    subst (λ n. eqb (bit_and c.args.key (get_or now.masks n 0)) (get_or now.keys n 0) ≡ true) at (c.first_match-lane.ensures.found c.if-lane-lt-LANES.true))

pub returns-else-lane-lt-LANES : goal.returns-else-lane-lt-LANES
returns-else-lane-lt-LANES c = grind (arith, route_missed, bit_and, get_or)
