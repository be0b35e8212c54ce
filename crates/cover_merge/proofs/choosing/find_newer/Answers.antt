-- One row more has its next in the list.
use Rattle.cover_merge.proofs.Common.{AreChangesFrom, AreNewerOf, IsFirstOfRoute, arith, get_or, length, length-set, refl, set, subst, suc, sym, ℕ, ◌-◌, ◌<◌, ◌∙◌, ◌≡◌}
use Rattle.cover_merge.proofs.{ChooseLemmas.are_places, ChooseLemmas.ArePlaces, TriedLemmas.AreNewerAt, TriedLemmas.newer_all, TriedLemmas.newer_behind, TriedLemmas.newer_more}
use Rattle.cover_merge.proofs.{TriedLemmas.newer_others, choosing.find_newer.Goals.After-as_slice-places}
use Rattle.cover_merge.proofs.choosing.find_newer.Goals as goal

-- the places are those of the route
are : (c : After-as_slice-places) (bits : ℕ) → IsFirstOfRoute c.args.linked.table.rows.now bits c.args.first
    → ArePlaces bits c.args.linked.table.rows.now (length c.args.linked.table.rows.now) c.as_slice-places.result.now
are c bits first = subst (ArePlaces bits c.args.linked.table.rows.now (length c.args.linked.table.rows.now)) (sym (c.as_slice-places.ensures ∙ c.in_ok-list.ensures bits first))
    (are_places bits c.args.linked.table.rows.now)

pub bounds-times-place : goal.bounds-times-place
bounds-times-place c =
    let first = c.requires.first in
    let places = are (goal.at.bounds-times-place c).After-as_slice-places first.0 first.1 in
    omega (arith, places.inside (c.loop-k.k - 1) 0 (omega (arith, c.loop-k.invariant.within, c.loop-k-test.true)), c.requires.one_each.0)

pub invariant_of-behind : goal.invariant_of-behind
invariant_of-behind c =
    let rows = c.args.linked.table.rows.now in
    let list = c.as_slice-places.result.now in
    let first = c.requires.first in
    let places = are (goal.at.invariant_of-behind c).After-as_slice-places first.0 first.1 in
    let n = c.loop-k.k - 1 in
    let inside : n < length list = omega (arith, c.loop-k.invariant.within, c.loop-k-test.true) in
    let step : c.loop-k.k ≡ suc n = omega (arith, c.loop-k-test.true) in
    let done : AreNewerAt (suc n) list rows c.args.times.now c.loop-k.newer.items = subst (λ i. AreNewerAt i list rows c.args.times.now c.loop-k.newer.items) step c.loop-k.invariant.done in
    record {
      behind = subst (AreChangesFrom (get_or list n 0) (suc (get_or list n 0)) rows c.args.times.now c.args.linked.links.now.next.items) (sym c.deref.ensures.value)
          (record {
            inside = places.inside n 0 inside;
            one_each = c.requires.one_each.0;
            nexts = c.args.linked.nexts;
            newer = λ d. subst (λ b. AreNewerOf b (suc (get_or list n 0)) rows c.args.times.now c.loop-k.newer.items) (sym ((places.each n 0 inside).1 d))
                (newer_behind first.0 rows list places c.args.times.now n (get_or list n 0) c.loop-k.newer.items inside refl done);
            places = c.loop-k.invariant.all;
          });
    }

pub loop-k-preserved : goal.loop-k-preserved
loop-k-preserved c =
    let rows = c.args.linked.table.rows.now in
    let times = c.args.times.now in
    let list = c.as_slice-places.result.now in
    let newer = c.loop-k.newer.items in
    let old = c.loop-k.invariant in
    let first = c.requires.first in
    let places = are (goal.at.loop-k-preserved c).After-as_slice-places in
    let n = c.loop-k.k - 1 in
    let k = get_or list n 0 in
    let v = c.changed_after-next.result in
    let inside : n < length list = omega (arith, old.within, c.loop-k-test.true) in
    let step : c.loop-k.k ≡ suc n = omega (arith, c.loop-k-test.true) in
    let done : AreNewerAt (suc n) list rows times newer = subst (λ i. AreNewerAt i list rows times newer) step old.done in record {
      within = omega (arith, old.within);
      all = length-set newer k v ∙ old.all;
      done = newer_more first.0 rows list (places first.0 first.1) times newer (set newer k v) n k v _ old.all c.requires.one_each.0 inside refl c.changed_after-next.ensures refl done;
      others = λ bits j d is other. newer_others bits rows newer (set newer k v) k v (λ e. ((places bits is).each n 0 inside).1 e) refl j d other ∙ old.others bits j d is other;
    }

pub returns-clause-own : goal.returns-clause-own
returns-clause-own c bits is =
    let rows = c.args.linked.table.rows.now in
    let list = c.as_slice-places.result.now in
    let places = are (goal.at.returns-clause-own c).After-as_slice-places bits is in
    let all : c.loop-k.k ≡ 0 = omega (arith, c.loop-k-test.false) in
    newer_all bits rows list places c.args.times.now c.loop-k.newer.items (subst (λ n. AreNewerAt n list rows c.args.times.now c.loop-k.newer.items) all c.loop-k.invariant.done)
