-- Each round is a step of the refinement.
use Rattle.cover_merge.proofs.Common.{PassesUpCheck, inr, length, merged_block, ◌≡◌, ◌≤◌}
use Rattle.cover_merge.proofs.{KeepLemmas.turn_down, RefineLemmas.one_route_after, RefineLemmas.legal_here}
use Rattle.cover_merge.proofs.refining.refine_within.Goals as goal

pub returns-then-narrow-clause-legal : goal.returns-then-narrow-clause-legal
returns-then-narrow-clause-legal c =
    let rows = c.args.table.rows.now in
    let left = c.sifted.new.set.items in
    let made = c.with_bounds.result in
    let sifted : (2 ≤ length left) × (c.in-Some.merged ≡ merged_block rows left) × (PassesUpCheck rows left) = rw c.in-Some.is at c.in_ok-merged.ensures.sifted.found_is in
    inr (legal_here rows left c.in_ok-merged.ensures.sifted.one_route c.args.table.sound sifted.0 c.narrow.new.set.items made.set
    (sifted.2, c.if-narrow.ensures.0, c.if-narrow.ensures.1) c.with_bounds.ensures.set)

pub refining-preserved-else-narrow : goal.refining-preserved-else-narrow
refining-preserved-else-narrow c =
    let rows = c.args.table.rows.now in
    let left = c.sifted.new.set.items in
    let step = c.if-narrow.ensures.0 in
    let sifted : (2 ≤ length left) × (c.in-Some.merged ≡ merged_block rows left) × (PassesUpCheck rows left) = rw c.in-Some.is at c.in_ok-merged.ensures.sifted.found_is in
    record {
      set = one_route_after rows left c.in_ok-merged.ensures.sifted.one_route c.narrow.new.set.items (inr step);
      gone = turn_down rows c.args.places c.refining.set.items left c.refining.outer c.outermost-outer.result c.in-Some.merged c.refining.low c.generality-low.result c.refining.invariant.gone c.refining.invariant.set c.in_ok-merged.ensures.sifted.steps
          sifted c.outermost-outer.ensures c.generality-low.ensures.value
          c.in_ok-merged.ensures.sifted.one_route.in_range c.narrow.new.set.items step;
    }
