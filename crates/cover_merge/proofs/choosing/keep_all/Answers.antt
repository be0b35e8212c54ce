-- Of one route more something is kept.
use Rattle.cover_merge.proofs.Common.{Kept, None, Some, ap, arith, below_more, get_or, get_or_default, length, length-set, rules, sym, ◌<◌, ◌∙◌, ◌≡◌}
use Rattle.cover_merge.proofs.KeepLemmas.{all_more, fresh_more, kept_put}
use Rattle.cover_merge.proofs.choosing.keep_all.Goals as goal

pub loop-c-preserved-then-is_known : goal.loop-c-preserved-then-is_known
loop-c-preserved-then-is_known c =
    let old = c.loop-c.invariant in
    let kept = c.loop-c.known.kept.items in
    let is = c.if-is_known.ensures in
    let inside : c.loop-c.c < length kept = omega (arith, old.linked.known.one_route, c.loop-c-test.true, c.len-c-end.ensures, ap length old.routes) in record {
      linked = old.linked;
      times = old.times;
      routes = old.routes;
      all = below_more (λ k. (it : Kept) × (get_or kept k None ≡ Some it)) c.loop-c.c old.all (is.0, get_or_default kept c.loop-c.c None _ inside ∙ sym c.index.ensures ∙ is.1);
      fresh = old.fresh;
    }

pub loop-c-preserved : goal.loop-c-preserved
loop-c-preserved c =
    let rows = c.args.rows.now in
    let known = c.loop-c.known in
    let old = c.loop-c.invariant in
    let routes = known.routes.items in
    let own = c.in_ok-set.field-0 in
    let it = own.kept in
    let told = c.in_ok-set.ensures in
    let was = old.linked.known in
    let inside : c.loop-c.c < length known.kept.items = omega (arith, was.one_route, c.loop-c-test.true, c.len-c-end.ensures, ap length old.routes) in record {
      linked = search (rules, length-set, kept_put);
      times = old.times;
      routes = old.routes;
      all = all_more known.kept.items c.loop-c.c it inside old.all;
      fresh = fresh_more routes rows c.loop-c.c own.set it.outer it.low told.refined c.loop-c.fresh _ c.renew_fresh.ensures old.fresh;
    }

pub returns-clause-kept : goal.returns-clause-kept
returns-clause-kept c =
    let so_far = c.loop-c.invariant in record {
      linked = so_far.linked;
      all = λ k inside. so_far.all k (omega (arith, inside, c.loop-c-test.false, c.len-c-end.ensures, ap length so_far.routes));
      fresh = so_far.fresh;
    }
