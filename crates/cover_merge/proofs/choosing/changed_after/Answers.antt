-- A row that changed no later is passed.
use Rattle.cover_merge.proofs.Common.{Times, [], ap, arith, get_or, get_or_default, length, merge_rows, refl, suc, ◌<◌}
use Rattle.cover_merge.proofs.TriedLemmas.{newer_next, since_turn}
use Rattle.cover_merge.proofs.choosing.changed_after.Goals as goal

pub loop-place-smaller : goal.loop-place-smaller
loop-place-smaller c =
    let b = c.args.behind in
    let rows = b.linked.table.rows.now in
    let place = c.loop-place.place in
    let inside : place < length rows = omega (arith, c.loop-place-test.true) in
    let next = newer_next rows b.times.now b.newer.now b.k place (suc c.args.time) (merge_rows []) (record { tried = 0; changed = 0 }) (b.behind.newer (merge_rows [])) inside c.loop-place.invariant in
    omega (arith, inside, next.behind)

pub loop-place-preserved : goal.loop-place-preserved
loop-place-preserved c =
    let b = c.args.behind in
    let rows = b.linked.table.rows.now in
    let place = c.loop-place.place in
    let inside : place < length rows = omega (arith, c.loop-place-test.true) in
    let was : Times = record { tried = 0; changed = 0 } in
    since_turn rows b.times.now b.newer.now b.k place (get_or b.newer.now place 0) c.args.time (get_or b.times.now place was).changed (merge_rows []) was
    (b.behind.newer (merge_rows [])) inside c.loop-place.invariant (λ e. ap (λ (x : Times). x.changed) (get_or_default b.times.now place e was (omega (arith, inside, b.behind.one_each)))) (omega (arith, c.if-changed-time.false)) refl
