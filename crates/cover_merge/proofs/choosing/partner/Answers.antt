-- The first row of the route that may pair is the first partner.
use Rattle.cover_merge.proofs.Common.{IsLegal, IsLegalPair, [], arith, length, refl, ◌<◌, ◌∙◌, ◌∷◌}
use Rattle.cover_merge.proofs.{ChooseLemmas.pair_inside, ChooseLemmas.pair_order, ChooseLemmas.pair_made, Answering.fails, TriedLemmas.skipped_none, TriedLemmas.each_on}
use Rattle.cover_merge.proofs.choosing.partner.Goals as goal

pub bounds-times-i : goal.bounds-times-i
bounds-times-i c = omega (arith, c.args.behind.behind.one_each, c.args.behind.behind.inside)

pub loop-j-init : goal.loop-j-init
loop-j-init c =
    let rows = c.args.behind.linked.table.rows.now in
    let next = c.next_to_try-j.ensures in record {
      behind = next.behind;
      same = next.same;
      none = skipped_none rows c.args.behind.times.now c.args.behind.k c.args.behind.k c.next_to_try-j.result _ c.args.behind.behind.one_each c.requires (omega arith) (λ d within. refl) next;
    }

pub invariant_of-pair : goal.invariant_of-pair
invariant_of-pair c =
    let rows = c.args.behind.linked.table.rows.now in
    let inside : c.loop-j.j < length rows = omega (arith, c.loop-j-test.true) in
    record { set = pair_made rows c.args.behind.k c.loop-j.j c.loop-j.invariant.behind inside (λ d. c.loop-j.invariant.same d inside) }

pub returns-then-is_legal_pair : goal.returns-then-is_legal_pair
returns-then-is_legal_pair c =
    let rows = c.args.behind.linked.table.rows.now in
    let inside : c.loop-j.j < length rows = omega (arith, c.loop-j-test.true) in
    let set = pair_made rows c.args.behind.k c.loop-j.j c.loop-j.invariant.behind inside (λ d. c.loop-j.invariant.same d inside) in
    record {
      legal = record { set = set; legal = c.is_legal_pair.ensures.0 c.if-is_legal_pair.true };
      before = λ b less other. c.loop-j.invariant.none b (pair_order rows c.args.behind.k b other) less other;
    }

pub invariant_of-further : goal.invariant_of-further
invariant_of-further c =
    let its = c.args.behind.behind in
    let old = c.loop-j.invariant in record {
      behind = record {
        inside = c.loop-j-test.true;
        one_each = its.one_each;
        nexts = its.nexts;
        newer = λ d k e f from within is. its.newer d k e f (omega (arith, from, old.behind)) within (is ∙ old.same d c.loop-j-test.true);
        places = its.places;
      };
    }

pub loop-j-preserved : goal.loop-j-preserved
loop-j-preserved c =
    let rows = c.args.behind.linked.table.rows.now in
    let gs = c.args.behind.times.now in
    let i = c.args.behind.k in
    let j = c.loop-j.j in
    let x = c.next_to_try-j-in-loop-j.result in
    let old = c.loop-j.invariant in
    let inside : j < length rows = omega (arith, c.loop-j-test.true) in
    let next = c.next_to_try-j-in-loop-j.ensures in record {
      behind = omega (arith, old.behind, next.behind);
      same = λ d within. next.same d within ∙ old.same d inside;
      none = each_on (λ b. IsLegalPair rows i b → ⊥) i j x old.none (λ pair. fails (IsLegal rows (i ∷ j ∷ [])) c.is_legal_pair.result c.is_legal_pair.ensures c.if-is_legal_pair.false pair.legal)
          (skipped_none rows gs i j x _ c.args.behind.behind.one_each c.requires (omega (arith, old.behind)) old.same next);
    }

pub returns : goal.returns
returns c b other =
    let rows = c.args.behind.linked.table.rows.now in
    c.loop-j.invariant.none b (pair_order rows c.args.behind.k b other) (omega (arith, c.loop-j-test.false, pair_inside rows c.args.behind.k b other)) other
