-- The first row with a partner is the first of the first pair.
use Rattle.cover_merge.proofs.Common.{AreChangesFrom, AreNoLater, IsLegalPair, Times, ap, arith, below_more, get_or, get_or_default, length, length-set, refl, set, subst, suc, sym, ℕ, ◌<◌, ◌∙◌, ◌≡◌}
use Rattle.cover_merge.proofs.{ChooseLemmas.pair_inside, ChooseLemmas.pair_order, ChooseLemmas.first_found, TriedLemmas.marked_put, TriedLemmas.times_no_later, TriedLemmas.newer_kept}
use Rattle.cover_merge.proofs.TriedLemmas.{settled_none}
use Rattle.cover_merge.proofs.choosing.first_pair.Goals as goal

pub loop-i-preserved-then-index : goal.loop-i-preserved-then-index
loop-i-preserved-then-index c =
    let rows = c.args.rows.now in
    let known = c.loop-i.known in
    let old = c.loop-i.invariant in
    let told = old.changes.linked.known in
    let i = c.loop-i.i in
    let n = c.index.result.now in
    let was = c.index-in-loop-i-2.result.now in
    let inside : i < length rows = omega (arith, c.loop-i-test.true) in
    let counted : i < length known.numbers.items = omega (arith, told.numbers.one_each, inside) in
    let same : n ≡ get_or known.numbers.items i 0 = c.index.ensures ∙ get_or_default known.numbers.items i n 0 counted in
    let low : n < length known.latest.items = omega (arith, same, told.one_time, told.numbers.below i 0 counted) in
    let late : c.index-in-loop-i.result.now ≡ get_or known.latest.items n 0 = c.index-in-loop-i.ensures ∙ get_or_default known.latest.items n c.index-in-loop-i.result.now 0 low in
    let timed : i < length known.times.items = omega (arith, told.one_each, inside) in
    let tried : (e : Times) → was.tried ≡ (get_or known.times.items i e).tried =
    λ e. ap (λ (x : Times). x.tried) (c.index-in-loop-i-2.ensures ∙ get_or_default known.times.items i was e timed) in record {
      none = below_more (λ a. (b : ℕ) → IsLegalPair rows a b → ⊥) i old.none
          (settled_none known.routes.items known.latest.items rows known.times.items i told.one_each old.marks.tried told.latest
          (λ d e. omega (arith, c.if-index.true, late, tried e, ap (λ m. get_or known.latest.items m 0) (same ∙ told.numbers.each i d inside))));
      marks = old.marks;
      changes = old.changes;
    }

pub invariant_of-behind : goal.invariant_of-behind
invariant_of-behind c =
    let rows = c.args.rows.now in
    let ready = c.in_ok-make_ready.ensures in record {
      behind = subst (AreChangesFrom c.loop-i.i (suc c.loop-i.i) rows c.deref.result.now c.args.links.now.next.items) (sym c.deref-in-loop-i.ensures.value)
          (subst (λ l. AreChangesFrom c.loop-i.i (suc c.loop-i.i) rows l c.args.links.now.next.items c.make_ready.new.changes.newer.items) (sym c.deref.ensures.value)
          (record { inside = c.loop-i-test.true; one_each = c.loop-i.invariant.changes.linked.known.one_each; nexts = ready.changes.linked.links.next; newer = λ d k e f from. ready.own d k e f (omega arith); places = ready.changes.places }));
    }

pub returns-in-Some-clause-found : goal.returns-in-Some-clause-found
returns-in-Some-clause-found c =
    let rows = c.args.rows.now in
    first_found rows c.in_ok-two_places.field-0 c.loop-i.i c.in-Some.j c.in_ok-two_places.ensures c.loop-i.invariant.none (rw c.in-Some.is at c.partner.ensures)

pub loop-i-preserved : goal.loop-i-preserved
loop-i-preserved c =
    let rows = c.args.rows.now in
    let known = c.loop-i.known in
    let gs = known.times.items in
    let i = c.loop-i.i in
    let g = c.marked.result in
    let was = c.index-in-loop-i-3.result.now in
    let read = c.index-in-loop-i-3.ensures in
    let mark = c.marked.ensures in
    let old = c.loop-i.invariant in
    let told = old.changes.linked.known in
    let ready = c.in_ok-make_ready.ensures.changes in
    let inside : i < length gs = omega (arith, told.one_each, c.loop-i-test.true) in
    let none : (b : ℕ) → IsLegalPair rows i b → ⊥ = rw c.in_default.is at c.partner.ensures in
    let as_long : length (set gs i g) ≡ length rows = length-set gs i g ∙ told.one_each in
    let latest : AreNoLater known.routes.items known.latest.items rows (set gs i g) =
    times_no_later known.routes.items known.latest.items rows gs c.args.now old.marks.bound i g inside
    (λ d. omega (arith, mark.changed, ap (λ x. x.changed) read, told.latest i d was inside)) told.latest in record {
      none = below_more (λ a. (b : ℕ) → IsLegalPair rows a b → ⊥) i old.none none;
      marks = marked_put c.args.now rows gs i g inside old.marks was read mark none;
      changes = record {
        linked = grind arith;
        places = ready.places;
        one_each = ready.one_each;
        newer = λ k e low is. newer_kept c.args.now (get_or known.routes.items k 0) rows gs (set gs i g) c.make_ready.new.changes.newer.items i g was inside read refl mark (ready.newer k e low is);
      };
    }

pub returns-clause-found : goal.returns-clause-found
returns-clause-found c a b other = c.loop-i.invariant.none a (omega (arith, c.loop-i-test.false, pair_order c.args.rows.now a b other, pair_inside c.args.rows.now a b other)) b other
