use Rattle.std.proofs.Common.{◌≡◌, ◌+◌, eqb, false, bit_and, get_or, arith, inl, inr}
use Rattle.std.proofs.lemmas.Bool.{cases_lt}
use Rattle.tcam_find.proofs.KnownLemmas.{through_block}
use Rattle.tcam_find.proofs.known.Known.next_group.Goals as goal

pub loop-at-preserved : goal.loop-at-preserved
loop-at-preserved c = record {
  ahead = omega (arith, c.loop-at.invariant.ahead, c.next_block-at.ensures.ahead);
  others = λ i behind before. elim (cases_lt i (c.loop-at.at + 8)) [
    | inl here ↦
        through_block {P = λ k. eqb (bit_and c.args.key (get_or c.args.self.now.common k 0)) (get_or c.args.self.now.values k 0) ≡ false}
        c.args.from c.loop-at.at c.first_match-ahead.result c.loop-at.invariant.others c.first_match-ahead.ensures.before
        i behind (omega (arith, here, c.if-ahead-lt-LANES.false))
    | inr there ↦ c.next_block-at.ensures.others i there before
  ];
}

pub returns-then-ahead-lt-LANES-clause-others : goal.returns-then-ahead-lt-LANES-clause-others
returns-then-ahead-lt-LANES-clause-others c i behind before =
    through_block {P = λ k. eqb (bit_and c.args.key (get_or c.args.self.now.common k 0)) (get_or c.args.self.now.values k 0) ≡ false}
    c.args.from c.loop-at.at c.first_match-ahead.result c.loop-at.invariant.others c.first_match-ahead.ensures.before
    i behind before
