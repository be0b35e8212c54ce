use Rattle.std.proofs.Common.{rules, ◌≡◌, ◌+◌, ◌*◌, eqb, false, bit_and, get_or, arith}
use Rattle.tcam_find.proofs.KnownLemmas.{through_block}
use Rattle.tcam_find.proofs.known.Known.block_from.Goals as goal

pub loop-eight-init : goal.loop-eight-init
loop-eight-init c i behind before = absurd (omega (arith, behind, before))

pub loop-eight-preserved : goal.loop-eight-preserved
loop-eight-preserved c i behind before =
    through_block {P = λ k. eqb (bit_and c.args.key (get_or c.args.self.now.block_common k 0)) (get_or c.args.self.now.block_values k 0) ≡ false}
    c.args.from (c.args.from + 8 * c.loop-eight.eight) c.first_match-ahead.result c.loop-eight.invariant c.first_match-ahead.ensures.before
    i behind (omega (arith, before, c.if-ahead-lt-LANES.false))

pub returns-then-ahead-lt-LANES : goal.returns-then-ahead-lt-LANES
returns-then-ahead-lt-LANES c i behind before =
    through_block {P = λ k. eqb (bit_and c.args.key (get_or c.args.self.now.block_common k 0)) (get_or c.args.self.now.block_values k 0) ≡ false}
    c.args.from (c.args.from + 8 * c.loop-eight.eight) c.first_match-ahead.result c.loop-eight.invariant c.first_match-ahead.ensures.before
    i behind before

pub returns : goal.returns
returns c i behind before = search rules
