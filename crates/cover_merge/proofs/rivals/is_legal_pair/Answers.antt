-- A pair is legal where both rows pass the up-check, and the merge the down-check.
use Rattle.cover_merge.proofs.Common.{[], arith, rules, ◌∷◌}
use Rattle.cover_merge.proofs.{Positions.has-at, RivalLemmas.one_route, RivalLemmas.pair_refused, RivalLemmas.pair_told}
use Rattle.cover_merge.proofs.rivals.is_legal_pair.Goals as goal

pub invariant_of-first : goal.invariant_of-first
invariant_of-first c = record {
  are = record {
    inside = c.args.pair.set.set.in_range 0 0 (omega arith);
    one_route = λ r less found. one_route _ _ c.args.pair.set.set c.args.pair.i r (has-at (c.args.pair.i ∷ c.args.pair.j ∷ []) 0 (omega arith)) found less;
    in_range = c.args.pair.set.set.in_range;
  };
}

pub returns-then-not-passes : goal.returns-then-not-passes
returns-then-not-passes c = search (rules, pair_refused, has-at)

pub invariant_of-second : goal.invariant_of-second
invariant_of-second c = grind (arith, one_route, has-at (c.args.pair.i ∷ c.args.pair.j ∷ []) 1 (omega arith))

pub returns-then-not-passes-2 : goal.returns-then-not-passes-2
returns-then-not-passes-2 c =
    pair_refused _ _ _ c.args.pair.set c.args.pair.table.sound c.merged_block-merged.result c.merged_block-merged.ensures c.generality-general.result c.generality-general.ensures.value
    c.args.pair.j c.passes-2.result (has-at (c.args.pair.i ∷ c.args.pair.j ∷ []) 1 (omega arith)) c.passes-2.ensures c.if-not-passes-2.true

pub returns : goal.returns
returns c =
    pair_told _ _ _ c.args.pair.set c.args.pair.table.sound c.merged_block-merged.result c.merged_block-merged.ensures c.generality-general.result c.generality-general.ensures.value
    c.passes_behind.result (c.passes.ensures.0 c.if-not-passes.false) (c.passes-2.ensures.0 c.if-not-passes-2.false) c.passes_behind.ensures
