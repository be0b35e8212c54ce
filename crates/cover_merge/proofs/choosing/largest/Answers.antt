-- The route of which most places are kept has the largest set.
use Rattle.cover_merge.proofs.Common.{RefinesWithin, arith, get_or, places_of, subst}
use Rattle.cover_merge.proofs.KeepLemmas.{none_largest, best_largest}
use Rattle.cover_merge.proofs.choosing.largest.Goals as goal

pub returns-then-most-lt2 : goal.returns-then-most-lt2
returns-then-most-lt2 c =
    let known = c.args.known.now in
    let told = c.requires.linked.known in
    none_largest known.routes.items c.args.rows.now known.numbers.items told.numbers known.kept.items told.kept c.requires.all c.most_of-most.result
    (grind arith) c.if-most-lt2.true

pub returns-then-len-most : goal.returns-then-len-most
returns-then-len-most c =
    let rows = c.args.rows.now in
    let known = c.args.known.now in
    let told = c.requires.linked.known in
    let routes = known.routes.items in
    let fresh = c.args.fresh in
    let refined = c.requires.fresh (omega (arith, c.if-most-lt2.false, c.if-len-most.true, c.len.ensures)) in
    best_largest routes rows known.numbers.items told.numbers known.kept.items told.kept c.requires.all c.most_of-most.result
    (grind arith) fresh.set (omega (arith, c.if-most-lt2.false)) refined.0 refined.1
    (subst (λ n. RefinesWithin rows refined.0 refined.1 (places_of (get_or routes n 0) 0 rows) fresh.set) c.if-fresh-most.true refined.2)

pub returns : goal.returns
returns c =
    let known = c.args.known.now in
    let told = c.requires.linked.known in
    let found = c.in_ok-set.field-0 in
    best_largest known.routes.items c.args.rows.now known.numbers.items told.numbers known.kept.items told.kept c.requires.all c.most_of-most.result
    (grind arith) found.set (omega (arith, c.if-most-lt2.false)) found.kept.outer found.kept.low c.in_ok-set.ensures.refined
