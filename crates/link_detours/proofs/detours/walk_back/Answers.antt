use Rattle.link_detours.proofs.Common.{AreWaves, IsBestStep, IsTreeChip, IsTreeLevel, IsWave, [], append-nil, arith, inside_parts, length, rules, subst, suc, sym, ℕ, ◌++◌, ◌-◌, ◌<◌, ◌∙◌, ◌∷◌, ◌≡◌}
use Rattle.link_detours.proofs.{Reaching.link_inside, Putting.bit_of, Putting.TellsTree, Putting.TellsTree-push, Waving.last_wave, Waving.no_waves, Waving.step_level, Waving.last_link_is}
use Rattle.link_detours.proofs.{Waving.some_step, Waving.on_tree, Waving.way_more, Waving.way_ends, detours.walk_back.Goals.After-split_at}
use Rattle.link_detours.proofs.detours.walk_back.Goals as goal

pub back-init : goal.back-init
back-init c = grind (arith, append-nil c.args.whole.now.items)

pub overflow_sub-left : goal.overflow_sub-left
overflow_sub-left c = grind (arith, last_wave)

-- the level of the chip, the waves before the last, and the last
taken : (c : After-split_at) → (k : ℕ) × IsTreeLevel c.args.aim.ground.machine.now c.args.aim.root c.args.whole.now.items c.back.at (suc k)
    × AreWaves c.args.aim.ground.machine.now (IsTreeChip c.args.aim.ground.machine.now c.args.aim.root c.args.whole.now.items) k c.split_at.result.0.now
    × IsWave c.args.aim.ground.machine.now (IsTreeChip c.args.aim.ground.machine.now c.args.aim.root c.args.whole.now.items) k c.split_at.result.1.now
taken c =
    let some : 0 < length c.back.left.now = search rules in
    let last = last_wave c.args.aim.ground.machine.now (IsTreeChip c.args.aim.ground.machine.now c.args.aim.root c.args.whole.now.items) c.back.invariant.count c.back.left.now
    some c.back.invariant.waves in
    let parts = last.3 (length c.back.left.now - length c.back.tree) (omega (arith, last.2, c.back.invariant.long)) in (
      last.0,
      subst (λ n. IsTreeLevel c.args.aim.ground.machine.now c.args.aim.root c.args.whole.now.items c.back.at n) last.1 c.back.invariant.level,
      rw c.split_at.ensures.front parts.0,
      rw c.split_at.ensures.back parts.1,
    )

pub invariant_of-front : goal.invariant_of-front
invariant_of-front c = record { long = (taken (goal.at.invariant_of-front c).After-split_at).3.long }

pub unreachable-requires : goal.unreachable-requires
unreachable-requires c =
    let now = taken (goal.at.unreachable-requires c).After-split_at in
    some_step c.args.aim.ground.machine.now c.args.aim.root c.args.whole.now.items now.0 c.split_at.result.1.now c.back.at now.3 now.1 c.in_default.ensures.none

pub put-requires : goal.put-requires
put-requires c = grind (arith, bit_of c.args.aim.ground.machine.now c.args.aim.ground.roads.now c.back.tree c.back.at c.args.aim.ground.roads_are c.back.invariant.long c.back.invariant.inside)

pub back-preserved : goal.back-preserved
back-preserved c =
    let now = taken (goal.at.back-preserved c).After-split_at in
    let best : IsBestStep c.args.aim.ground.machine.now c.split_at.result.1.now c.back.at c.in-Some.edge = c.in-Some.ensures.found in
    let last = last_link_is c.args.aim.ground.machine.now c.args.aim.root c.args.whole.now.items now.0 c.split_at.result.1.now c.back.at c.in-Some.edge now.3 now.1 best in
    let way = way_more c.args.aim.ground.machine.now c.args.aim.root c.args.whole.now.items c.args.aim.target c.back.at c.back.whole.items
    c.back.invariant.done c.in-Some.edge c.back.invariant.added c.back.invariant.way last in
    record {
      inside = link_inside c.args.aim.ground.machine.now c.in-Some.edge.chip c.in-Some.edge.dir best.0.0;
      count = now.0;
      waves = now.2;
      level = step_level c.args.aim.ground.machine.now c.args.aim.root c.args.whole.now.items now.0 c.split_at.result.1.now c.back.at c.in-Some.edge now.3 now.1 best;
      long = search rules;
      chips = subst (λ es. TellsTree c.args.aim.ground.machine.now c.args.aim.root es c.put.new.set) (sym c.in_ok-push.ensures.items)
          (TellsTree-push c.args.aim.ground.machine.now c.args.aim.root c.back.whole.items c.back.tree c.put.new.set c.in-Some.edge c.back.at
          best.0.1 c.put.ensures.here c.put.ensures.others c.back.invariant.chips);
      done = c.back.invariant.done ++ c.in-Some.edge ∷ [];
      added = c.in_ok-push.ensures.items ∙ way.0;
      way = way.1;
    }

pub returns-clause-joined : goal.returns-clause-joined
returns-clause-joined c =
    let low : c.back.at.x < c.args.aim.ground.machine.now.width = (inside_parts c.args.aim.ground.machine.now c.back.at c.back.invariant.inside).0 in
    let none : length c.back.left.now ≡ 0 = search rules in
    let ends = no_waves c.args.aim.ground.machine.now (IsTreeChip c.args.aim.ground.machine.now c.args.aim.root c.args.whole.now.items) c.back.invariant.count c.back.left.now
    (omega (arith, low)) none c.back.invariant.waves in
    let on = on_tree c.args.aim.ground.machine.now c.args.aim.root c.args.whole.now.items c.back.at
    (subst (λ n. IsTreeLevel c.args.aim.ground.machine.now c.args.aim.root c.args.whole.now.items c.back.at n) ends c.back.invariant.level) in (
      c.back.invariant.done,
      c.back.invariant.added,
      way_ends c.args.aim.ground.machine.now c.args.aim.root c.args.whole.now.items c.args.aim.target c.back.at c.back.invariant.done c.back.invariant.way on,
    )
