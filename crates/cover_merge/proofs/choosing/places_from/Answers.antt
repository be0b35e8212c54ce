-- From each row on to the next of its route.
use Rattle.cover_merge.proofs.Common.{All-nil, arith, ◌∙◌}
use Rattle.cover_merge.proofs.{Lists.AllPairs-nil, ChooseLemmas.link_next, ChooseLemmas.places_next, ChooseLemmas.places_only}
use Rattle.cover_merge.proofs.choosing.places_from.Goals as goal

pub loop-place-init : goal.loop-place-init
loop-place-init c bits first = grind (arith, AllPairs-nil, All-nil)

pub loop-place-preserved : goal.loop-place-preserved
loop-place-preserved c bits first =
    let rows = c.args.linked.table.rows.now in
    let old = c.loop-place.invariant bits first in
    let next = link_next rows c.args.linked.links.now.next.items c.args.linked.nexts c.loop-place.place c.index.result.now c.loop-place-test.true c.index.ensures in record {
      same = λ d within. next.same d within ∙ old.same d c.loop-place-test.true;
      found = places_next rows bits c.loop-place.place c.index.result.now c.loop-place.places.items c.push.new.self.items c.loop-place-test.true (λ e. old.same e c.loop-place-test.true) next old.found c.in_ok-push.ensures.items;
    }

pub returns : goal.returns
returns c bits first = c.from_vec.ensures
    ∙ places_only bits c.args.linked.table.rows.now c.loop-place.place c.loop-place.places.items (omega (arith, c.loop-place-test.false)) (c.loop-place.invariant bits first).found
