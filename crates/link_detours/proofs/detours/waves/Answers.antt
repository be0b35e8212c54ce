use Rattle.link_detours.proofs.Common.{IsIn, arith, cases_eq, false≢true, get_or, mul-le, refl, suc, sum_by-le, sym, ◌∙◌, ◌≡◌}
use Rattle.link_detours.proofs.{Waving.sums_rise, Waving.next_wave, Waving.dry, Waving.level_is, Waving.off_wave, Waving.added_words, Naming.all_named, Naming.none_grew, Naming.spread_but}
use Rattle.link_detours.proofs.detours.waves.Goals as goal

pub overflow_mul-tree : goal.overflow_mul-tree
overflow_mul-tree c = grind (arith, mul-le)

pub spreading-init : goal.spreading-init
spreading-init c = grind (arith, all_named)

pub invariant_of-front : goal.invariant_of-front
invariant_of-front c = grind (arith, added_words)

pub spread-grown-requires-clause-same : goal.spread-grown-requires-clause-same
spread-grown-requires-clause-same c = grind (arith, added_words)

pub spreading-preserved : goal.spreading-preserved
spreading-preserved c =
    let off_last : IsIn c.spreading.last c.args.target.chip → ⊥ = λ bit. false≢true (sym c.spreading-test.true ∙ c.has.ensures.1 bit) in record {
      count = suc c.spreading.invariant.count;
      waves = (c.spreading.waves.items, c.spreading.last, c.in_ok-extend_from_slice.ensures.items, c.spreading.invariant.waves, c.spreading.invariant.wave);
      wave = next_wave c.args.target.front.ground.machine.now (IsIn c.args.target.front.set.now) c.spreading.invariant.count c.spreading.last c.spread-grown.new.next
          c.spreading.invariant.wave (c.spread-grown.auto.next ∙ c.spreading.invariant.wave.long) c.spread-grown.ensures.spread;
      near = spread_but c.args.target.front.ground.machine.now c.spreading.last c.spread-grown.new.next c.spread-grown.result c.near_columns-near.result
          (λ x inside by. (c.spread-grown.ensures.spread x inside).1 by) c.spread-grown.ensures.grown (rw c.width.ensures.value at c.near_columns-near.ensures);
      off = off_wave c.args.target.front.ground.machine.now (IsIn c.args.target.front.set.now) c.spreading.invariant.count c.spreading.last c.args.target.chip c.args.target.inside
          c.spreading.invariant.wave off_last;
    }

pub spreading-smaller : goal.spreading-smaller
spreading-smaller c = grind (arith, sums_rise, sum_by-le, get_or, cases_eq)

pub returns-then-grown-eq0-clause-cut_off : goal.returns-then-grown-eq0-clause-cut_off
returns-then-grown-eq0-clause-cut_off c = λ n by.
    let same : c.spread-grown.new.next ≡ c.spreading.last =
    sym (none_grew c.spreading.last c.spread-grown.new.next c.spread-grown.result (sym c.spread-grown.auto.next)
    (omega (arith, c.if-grown-eq0.true)) c.spread-grown.ensures.grown) in
    let bit : IsIn c.spreading.last c.args.target.chip =
    dry c.args.target.front.ground.machine.now (IsIn c.args.target.front.set.now) c.spreading.last c.spread-grown.new.next
    (λ x inside start. (c.spreading.invariant.wave.told x inside).1 (0, omega arith, (x, start, refl))) same
    c.spread-grown.ensures.spread n c.args.target.chip c.args.target.inside by in
    false≢true (sym c.spreading-test.true ∙ c.has.ensures.1 bit)

pub returns-clause-waves : goal.returns-clause-waves
returns-clause-waves c = (
  c.spreading.invariant.count,
  c.spreading.invariant.waves,
  level_is c.args.target.front.ground.machine.now (IsIn c.args.target.front.set.now) c.spreading.invariant.count c.spreading.last c.args.target.chip c.args.target.inside
      c.spreading.invariant.wave (c.has.ensures.0 c.spreading-test.false) c.spreading.invariant.off,
)
